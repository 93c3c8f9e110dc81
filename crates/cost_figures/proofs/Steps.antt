-- The steps of the walk.
use Rattle.std.proofs.Common.{◌≡◌, ℕ, zero, suc, ◌+◌, ◌<◌, ◌≤◌, ◌≢◌, ◌⊎◌, inl, inr, List, [], ◌∷◌, ◌++◌, length, take}
use Rattle.std.proofs.Common.{set, get_or, refl, sym, ap, subst, ◌∙◌, arith, Bool, true, false, MatchBool, replicate}
use Rattle.std.proofs.lemmas.Bool.{cases_lt}
use Rattle.std.proofs.lemmas.List.{get_or-set_same, get_or-set_other, take_more, take_all, length-set, append-nil}
use Rattle.std.proofs.lemmas.List.{get_or_read, get_or_past, get_or-replicate, length-replicate}
use Rattle.cost_figures.proofs.Expansions.{Expands-append}
use Rattle.cost_figures.specs.Counts.{figures_of}
use Rattle.cost_figures.specs.Expansion.{Expands, nothing, other, spread, is_spread, definition, within, Spreads, Leads}
use Rattle.cost_figures.specs.Expansion.{here, onward}
use Rattle.cost_figures.specs.Outcome.{IsCycle, IsUndefined}
use Rattle.cost_figures.specs.Walks.{Measured, IsAt, IsFrame, IsPast, WaitsAt, Path, start, deeper, first, root, Among}
use Rattle.cost_figures.specs.Walks.{mark, Noted, Sound, Idle, Finished, untouched, left_in, left_in_all, Goes}
use Rattle.cost_figures.specs.declared.figures.Figures.{Figures}
use Rattle.cost_figures.specs.declared.items.Item.{Item}
use Rattle.cost_figures.specs.declared.items.Item.TheVariants.{Spread}
use Rattle.cost_figures.specs.declared.items.Span.{Span}
use Rattle.cost_figures.specs.declared.walk.Frame.{Frame}
use Rattle.cost_figures.specs.declared.walk.Mark.{Mark}
use Rattle.cost_figures.specs.declared.walk.Mark.TheVariants.{Untouched, Open, Done}
use Rattle.cost_figures.specs.declared.walk.OpenDefinitions.{OpenDefinitions}

same_or_not : (m n : ℕ) → (m ≡ n) ⊎ (m ≢ n)
same_or_not m n = elim (cases_lt m n) [
  | inl h ↦ inr (omega arith)
  | inr h ↦
      elim (cases_lt n m) [ inl k ↦ inr (omega arith) | inr k ↦ inl (omega arith) ]
]

-- ---- paths

-- the same path to another frame of the same definition
turned : {d : List (List Item)} {fs : List Frame} {f g : Frame} → Path d fs f → g.definition ≡ f.definition
    → IsFrame d g → Path d fs g
turned (start i) e j = start j
turned {d = d} (deeper {fs = fs} {f = f} p w i) e j = deeper p (subst (λ k. WaitsAt d f k) (sym e) w) j

its_frame : {d : List (List Item)} {fs : List Frame} {f : Frame} → Path d fs f → IsFrame d f
its_frame (start i) = i
its_frame (deeper p w i) = i

first-more : (fs : List Frame) (f g : Frame) → first (fs ++ f ∷ []) g ≡ first fs f
first-more [] f g = refl
first-more (h ∷ fs) f g = refl

first-same : (fs : List Frame) (f g : Frame) → g.definition ≡ f.definition → first fs g ≡ first fs f
first-same [] f g e = e
first-same (h ∷ fs) f g e = refl

spreads : (d : List (List Item)) (f : Frame) (k : ℕ) → WaitsAt d f k → Spreads d f.definition k
spreads d f k w = record { enclosing = w.enclosing; span = w.span; is_there = (f.next, w.is_there.0, w.is_there.1) }

leads_to : {d : List (List Item)} {fs : List Frame} {f : Frame} → Path d fs f → Leads d (first fs f) f.definition
leads_to (start i) = here
leads_to {d = d} (deeper {fs = fs} {f = f} {g = g} p w i) =
    subst (λ r. Leads d r g.definition) (sym (first-more fs f g)) (onward (leads_to p) (spreads d f g.definition w))

among-more : (k : ℕ) (fs : List Frame) (f : Frame) → Among k (fs ++ f ∷ []) → (k ≡ f.definition) ⊎ Among k fs
among-more k [] f (inl e) = inl e
among-more k [] f (inr h) = inr h
among-more k (g ∷ fs) f (inl e) = inr (inl e)
among-more k (g ∷ fs) f (inr h) = elim (among-more k fs f h) [ inl e ↦ inl e | inr i ↦ inr (inr i) ]

more-among : (k : ℕ) (fs : List Frame) (f : Frame) → (k ≡ f.definition) ⊎ Among k fs → Among k (fs ++ f ∷ [])
more-among k [] f (inl e) = inl e
more-among k [] f (inr h) = inr h
more-among k (g ∷ fs) f (inl e) = inr (more-among k fs f (inl e))
more-among k (g ∷ fs) f (inr (inl e)) = inl e
more-among k (g ∷ fs) f (inr (inr h)) = inr (more-among k fs f (inr h))

-- each definition on the path leads to its end
led_back : {d : List (List Item)} {fs : List Frame} {f : Frame} (k : ℕ) → Path d fs f → (k ≡ f.definition) ⊎ Among k fs
    → Leads d k f.definition
led_back {d = d} {f = f} k (start i) (inl e) = subst (λ j. Leads d k j) e here
led_back k (start i) (inr h) = absurd h
led_back {d = d} k (deeper {fs = fs} {f = f} {g = g} p w i) (inl e) = subst (λ j. Leads d k j) e here
led_back {d = d} k (deeper {fs = fs} {f = f} {g = g} p w i) (inr h) =
    onward (led_back k p (among-more k fs f h)) (spreads d f g.definition w)

-- a list's last element, and those before it
empty-more : (xs : List Frame) (x : Frame) → [] ≡ xs ++ x ∷ [] → ⊥
empty-more [] x e = cc
empty-more (y ∷ xs) x e = cc

heads : (x y : Frame) (xs ys : List Frame) → ◌≡◌ {A = List Frame} (x ∷ xs) (y ∷ ys) → x ≡ y
heads x y xs ys e = cc

tails : (x y : Frame) (xs ys : List Frame) → ◌≡◌ {A = List Frame} (x ∷ xs) (y ∷ ys) → xs ≡ ys
tails x y xs ys e = cc

same_last : (xs ys : List Frame) (x y : Frame) → xs ++ x ∷ [] ≡ ys ++ y ∷ [] → (xs ≡ ys) × (x ≡ y)
same_last [] [] x y e = (refl, heads x y [] [] e)
same_last [] (z ∷ ys) x y e = absurd (empty-more ys y (tails x z [] (ys ++ y ∷ []) e))
same_last (z ∷ xs) [] x y e = absurd (empty-more xs x (sym (tails z y (xs ++ x ∷ []) [] e)))
same_last (z ∷ xs) (w ∷ ys) x y e =
    let h = same_last xs ys x y (tails z w (xs ++ x ∷ []) (ys ++ y ∷ []) e) in
    let k = heads z w (xs ++ x ∷ []) (ys ++ y ∷ []) e in
    (let r : ◌≡◌ {A = List Frame} (z ∷ xs) (w ∷ ys) = cc (h.0, k) in r, h.1)

shorter : {d : List (List Item)} {ws : List Frame} {g : Frame} (fs : List Frame) (f : Frame) → Path d ws g
    → ws ≡ fs ++ f ∷ [] → Path d fs f
shorter fs f (start i) e = absurd (empty-more fs f e)
shorter {d = d} fs f (deeper {fs = hs} {f = h} p w i) e =
    let s = same_last hs fs h f e in
    subst (λ y. Path d fs y) s.1 (subst (λ ys. Path d ys h) s.0 p)

-- ---- marks

mark-same : (ms : List Mark) (k : ℕ) (m : Mark) → k < length ms → mark (set ms k m) k ≡ m
mark-same ms k m h = get_or-set_same ms k m Untouched h

mark-other : (ms : List Mark) (k j : ℕ) (m : Mark) → j ≢ k → mark (set ms k m) j ≡ mark ms j
mark-other ms k j m h = get_or-set_other ms k j m Untouched h

not_done : (f : Figures) → Open ≡ Done f → ⊥
not_done f e = cc

not_open : (f : Figures) → Done f ≡ Open → ⊥
not_open f e = cc

same_done : (f g : Figures) → Done f ≡ Done g → f ≡ g
same_done f g e = cc

open_noted : (d : List (List Item)) (ms : List Mark) (k : ℕ) → k < length d → Noted d ms → Noted d (set ms k Open)
open_noted d ms k h n = record {
  marked = length-set ms k Open ∙ n.marked;
  done = λ j f e. elim (same_or_not j k) [
    | inl s ↦ absurd (not_done f (sym (mark-same ms k Open (let b : k < length ms = omega (arith, n.marked) in b))
        ∙ (subst (λ i. mark (set ms k Open) i ≡ Done f) s e)))
    | inr s ↦ n.done j f (sym (mark-other ms k j Open s) ∙ e)
  ];
}

done_noted : (d : List (List Item)) (ms : List Mark) (k : ℕ) (g : Figures) → k < length d
    → Measured d (definition d k) g → Noted d ms
    → Noted d (set ms k (Done g))
done_noted d ms k g h m n = record {
  marked = length-set ms k (Done g) ∙ n.marked;
  done = λ j f e. elim (same_or_not j k) [
    | inl s ↦ subst (λ i. Measured d (definition d i) f) (sym s)
        (subst (λ x. Measured d (definition d k) x)
        (same_done g f (sym (mark-same ms k (Done g) (let b : k < length ms = omega (arith, n.marked) in b))
        ∙ (subst (λ i. mark (set ms k (Done g)) i ≡ Done f) s e))) m)
    | inr s ↦ n.done j f (sym (mark-other ms k j (Done g) s) ∙ e)
  ];
}

-- where a definition becomes done, what is still open was open, and is another one
still_open : (ms : List Mark) (k j : ℕ) (g : Figures) → k < length ms → mark (set ms k (Done g)) j ≡ Open
    → (j ≢ k) × (mark ms j ≡ Open)
still_open ms k j g h e = elim (same_or_not j k) [
  | inl s ↦ absurd (not_open g (sym (mark-same ms k (Done g) h) ∙ (subst (λ i. mark (set ms k (Done g)) i ≡ Open) s e)))
  | inr s ↦ (s, sym (mark-other ms k j (Done g) s) ∙ e)
]

-- ---- past one item, `x`, which expands to `out`

with_next : (xs : List Item) (i : ℕ) (x : Item) → IsAt xs i x → take (i + 1) xs ≡ take i xs ++ x ∷ []
with_next xs i x a = take_more xs i x a.0 ∙ ap (λ y. take i xs ++ y ∷ []) a.1

frame_past : (d : List (List Item)) (f g : Frame) (x : Item) (out : List Item) (h : Figures) → IsFrame d f
    → IsAt (definition d f.definition) f.next x
    → Expands d (x ∷ []) out → h ≡ figures_of out → IsPast f g h → IsFrame d g
frame_past d f g x out h i a p e q =
    let xs = definition d f.definition in
    let m : Measured d (take (f.next + 1) xs) g.figures = record {
      expansion = i.so_far.expansion ++ out;
      expands = subst (λ zs. Expands d zs (i.so_far.expansion ++ out)) (sym (with_next xs f.next x a))
          (Expands-append i.so_far.expands p);
      figures = q.figures i.so_far.expansion out i.so_far.figures e;
    } in
    record {
      is_one = omega (arith, i.is_one, q.definition);
      in_range = subst (λ k. g.next ≤ length (definition d k)) (sym q.definition) (omega (arith, q.next, a.0));
      so_far = subst (λ k. Measured d (take g.next (definition d k)) g.figures) (sym q.definition)
          (subst (λ n. Measured d (take n xs) g.figures)
          (sym q.next) m);
    }

past : {A : Type 0} (d : List (List Item)) (w v : OpenDefinitions A) (x : Item) (out : List Item) (h : Figures)
    → Sound d w
    → IsAt (definition d w.current.definition) w.current.next x
    → Expands d (x ∷ []) out → h ≡ figures_of out
    → v.marks.items ≡ w.marks.items → v.waiting.items ≡ w.waiting.items → IsPast w.current v.current h → Goes d w v true
past d w v x out h s a p e marks waiting q = record {
  root = ap (λ fs. first fs v.current) waiting ∙ first-same w.waiting.items w.current v.current q.definition;
  state = record {
    sound = record {
      noted = subst (λ ms. Noted d ms) (sym marks) s.noted;
      waits = λ k o. subst (λ j. (k ≡ j) ⊎ Among k v.waiting.items) (sym q.definition)
          (subst (λ fs. (k ≡ w.current.definition) ⊎ Among k fs) (sym waiting)
          (s.waits k (subst (λ ms. mark ms k ≡ Open) marks o)));
      path = subst (λ fs. Path d fs v.current) (sym waiting)
          (turned s.path q.definition (frame_past d w.current v.current x out h
          (its_frame s.path) a p e q));
    };
    smaller = omega (
      arith,
      a.0,
      q.next,
      ap (λ ms. untouched d ms) marks,
      ap (λ fs. left_in_all d fs) waiting,
      ap (λ k. length (definition d k)) q.definition,
    );
  };
}

pub past_other : {A : Type 0} (d : List (List Item)) (w v : OpenDefinitions A) (x : Item) (h : Figures) → Sound d w
    → IsAt (definition d w.current.definition) w.current.next x
    → is_spread x ≡ false → h ≡ figures_of (x ∷ [])
    → v.marks.items ≡ w.marks.items → v.waiting.items ≡ w.waiting.items → IsPast w.current v.current h → Goes d w v true
past_other d w v x h s a n e marks waiting q = past d w v x (x ∷ []) h s a (other n nothing) e marks waiting q

pub past_spread : {A : Type 0} (d : List (List Item)) (w v : OpenDefinitions A) (e k : ℕ) (i : Span) (f h : Figures)
    → Sound d w
    → IsAt (definition d w.current.definition) w.current.next (Spread e k i) → k < length d
    → mark w.marks.items k ≡ Done f
    → ((xs : List Item) → f ≡ figures_of xs → h ≡ figures_of (within e xs))
    → v.marks.items ≡ w.marks.items → v.waiting.items ≡ w.waiting.items → IsPast w.current v.current h → Goes d w v true
past_spread d w v e k i f h s a known m c marks waiting q =
    let n = s.noted.done k f m in
    let p : Expands d (Spread e k i ∷ []) (within e n.expansion ++ []) = spread known n.expands nothing in
    past d w v (Spread e k i) (within e n.expansion) h s a (rw append-nil at p) (c n.expansion n.figures) marks
    waiting q

-- ---- into a fragment

untouched-open : (d : List (List Item)) (ms : List Mark) (k : ℕ) → k < length d → mark ms k ≡ Untouched
    → length ms ≡ length d
    → untouched d (set ms k Open) + (length (definition d k) + 2) ≡ untouched d ms
untouched-open [] ms k h e n = absurd (omega arith)
untouched-open (xs ∷ d) [] k h e n = absurd (omega arith)
untouched-open (xs ∷ d) (Untouched ∷ ms) zero h e n = refl
untouched-open (xs ∷ d) (Open ∷ ms) zero h e n = absurd (let r : ⊥ = cc in r)
untouched-open (xs ∷ d) (Done f ∷ ms) zero h e n = absurd (let r : ⊥ = cc in r)
untouched-open (xs ∷ d) (Untouched ∷ ms) (suc k) h e n = let ih = untouched-open d ms k (omega arith) e (omega arith) in
    omega arith
untouched-open (xs ∷ d) (Open ∷ ms) (suc k) h e n = untouched-open d ms k (omega arith) e (omega arith)
untouched-open (xs ∷ d) (Done f ∷ ms) (suc k) h e n = untouched-open d ms k (omega arith) e (omega arith)

left_in_all-last : (d : List (List Item)) (fs : List Frame) (f : Frame)
    → left_in_all d (fs ++ f ∷ []) ≡ left_in_all d fs + left_in d f
left_in_all-last d [] f = omega arith
left_in_all-last d (g ∷ fs) f = omega (arith, left_in_all-last d fs f)

begun : (d : List (List Item)) (k : ℕ) → k < length d
    → IsFrame d (record { definition = k; next = 0; figures = figures_of [] })
begun d k known = record {
  is_one = known;
  in_range = omega arith;
  so_far = record { expansion = []; expands = nothing; figures = refl };
}

pub entered : {A : Type 0} (d : List (List Item)) (w v : OpenDefinitions A) (e k : ℕ) (i : Span) → Sound d w
    → IsAt (definition d w.current.definition) w.current.next (Spread e k i)
    → k < length d → mark w.marks.items k ≡ Untouched
    → v.marks.items ≡ set w.marks.items k Open → v.waiting.items ≡ w.waiting.items ++ w.current ∷ []
    → v.current ≡ record { definition = k; next = 0; figures = figures_of [] } → Goes d w v true
entered d w v e k i s a known new marks waiting current = record {
  root = ap (λ fs. first fs v.current) waiting ∙ first-more w.waiting.items w.current v.current;
  state = record {
    sound = record {
      noted = subst (λ ms. Noted d ms) (sym marks) (open_noted d w.marks.items k known s.noted);
      waits = λ j o. elim (same_or_not j k) [
        | inl q ↦ inl (q ∙ sym (ap (λ (f : Frame). f.definition) current))
        | inr q ↦ inr (subst (λ fs. Among j fs) (sym waiting) (more-among j w.waiting.items w.current
            (s.waits j (sym (mark-other w.marks.items k j Open q) ∙ subst (λ ms. mark ms j ≡ Open) marks o))))
      ];
      path = subst (λ f. Path d v.waiting.items f) (sym current)
          (subst (λ fs. Path d fs (record { definition = k; next = 0; figures = figures_of [] }))
          (sym waiting)
          (deeper s.path (record { enclosing = e; span = i; is_there = a }) (begun d k known)));
    };
    smaller = omega (
      arith,
      ap (λ ms. untouched d ms) marks,
      untouched-open d w.marks.items k known new s.noted.marked,
      ap (λ fs. left_in_all d fs) waiting,
      left_in_all-last d w.waiting.items w.current,
      ap (λ f. left_in d f) current,
    );
  };
}

-- ---- out of a definition

untouched-done : (d : List (List Item)) (ms : List Mark) (k : ℕ) (g : Figures)
    → untouched d (set ms k (Done g)) ≤ untouched d ms
untouched-done [] ms k g = omega arith
untouched-done (xs ∷ d) [] k g = omega arith
untouched-done (xs ∷ d) (Untouched ∷ ms) zero g = omega arith
untouched-done (xs ∷ d) (Open ∷ ms) zero g = omega arith
untouched-done (xs ∷ d) (Done f ∷ ms) zero g = omega arith
untouched-done (xs ∷ d) (Untouched ∷ ms) (suc k) g = omega (arith, untouched-done d ms k g)
untouched-done (xs ∷ d) (Open ∷ ms) (suc k) g = untouched-done d ms k g
untouched-done (xs ∷ d) (Done f ∷ ms) (suc k) g = untouched-done d ms k g

whole : (d : List (List Item)) (f : Frame) → IsFrame d f → f.next ≡ length (definition d f.definition)
    → Measured d (definition d f.definition) f.figures
whole d f i e = subst (λ xs. Measured d xs f.figures)
    (take_all f.next (definition d f.definition) (omega arith)) i.so_far

module _ {A : Type 0} (d : List (List Item)) (w v : OpenDefinitions A) (s : Sound d w)
    (e : w.current.next ≡ length (definition d w.current.definition))
    (marks : v.marks.items ≡ set w.marks.items w.current.definition (Done w.current.figures)) where
  noted : Noted d v.marks.items
  noted =
      let i = its_frame s.path in
      subst (λ ms. Noted d ms) (sym marks)
      (done_noted d w.marks.items w.current.definition w.current.figures i.is_one (whole d w.current i e) s.noted)

  still_waits : (j : ℕ) → mark v.marks.items j ≡ Open → Among j w.waiting.items
  still_waits j o =
      let i = its_frame s.path in
      let t = still_open w.marks.items w.current.definition j w.current.figures
      (let b : w.current.definition < length w.marks.items = omega
      (arith, i.is_one, s.noted.marked) in b) (subst (λ ms. mark ms j ≡ Open) marks o) in
      elim (s.waits j t.1) [ inl q ↦ absurd (t.0 q) | inr q ↦ q ]

  back : w.waiting.items ≡ v.waiting.items ++ v.current ∷ [] → Goes d w v true
  back waiting = record {
    root = sym (ap (λ fs. first fs w.current) waiting ∙ first-more v.waiting.items v.current w.current);
    state = record {
      sound = record {
        noted = noted;
        waits = λ j o. among-more j v.waiting.items v.current (subst (λ fs. Among j fs) waiting (still_waits j o));
        path = shorter v.waiting.items v.current s.path waiting;
      };
      smaller = omega (
        arith,
        ap (λ ms. untouched d ms) marks,
        untouched-done d w.marks.items w.current.definition w.current.figures,
        ap (λ fs. left_in_all d fs) waiting,
        left_in_all-last d v.waiting.items v.current,
      );
    };
  }

  finished : w.waiting.items ≡ [] → v.waiting.items ≡ [] → v.current ≡ w.current → Goes d w v false
  finished waited waiting current = record {
    root = ap (λ fs. first fs v.current) waiting ∙ ap (λ (f : Frame). f.definition) current
        ∙ sym (ap (λ fs. first fs w.current) waited);
    state = record {
      idle = record {
        noted = noted;
        none_open = λ j o. subst (λ fs. Among j fs) waited (still_waits j o);
        none_waits = waiting;
      };
      measured = subst (λ f. Measured d (definition d f.definition) f.figures) (sym current)
          (whole d w.current (its_frame s.path) e);
    };
  }

  pub out : (more : Bool)
      → MatchBool more (w.waiting.items ≡ v.waiting.items ++ v.current ∷ [])
      ((w.waiting.items ≡ []) × (v.waiting.items ≡ []) × (v.current ≡ w.current))
      → Goes d w v more
  out true h = back h
  out false h = finished h.0 h.1 h.2

-- ---- faults

pub cyclic : {A : Type 0} (d : List (List Item)) (w : OpenDefinitions A) (e k : ℕ) (i : Span) → Sound d w
    → IsAt (definition d w.current.definition) w.current.next (Spread e k i)
    → mark w.marks.items k ≡ Open → IsCycle d (root w) i
cyclic d w e k i s a o = record {
  holder = w.current.definition;
  fragment = k;
  enclosing = e;
  is_there = (w.current.next, a.0, a.1);
  leads = leads_to s.path;
  back = led_back k s.path (s.waits k o);
}

pub undefined : {A : Type 0} (d : List (List Item)) (w : OpenDefinitions A) (e k : ℕ) (i : Span) → Sound d w
    → IsAt (definition d w.current.definition) w.current.next (Spread e k i)
    → length d ≤ k → IsUndefined d (root w) i
undefined d w e k i s a h = record {
  holder = w.current.definition;
  fragment = k;
  enclosing = e;
  is_there = (w.current.next, a.0, a.1);
  leads = leads_to s.path;
  unknown = h;
}

-- ---- beginning and end

pub at_start : {A : Type 0} (d : List (List Item)) (w v : OpenDefinitions A) (k : ℕ) → k < length d → Idle d w
    → v.marks.items ≡ set w.marks.items k Open
    → v.waiting.items ≡ w.waiting.items
    → v.current ≡ record { definition = k; next = 0; figures = figures_of [] } → Sound d v × (root v ≡ k)
at_start d w v k known i marks waiting current =
    let none : v.waiting.items ≡ [] = waiting ∙ i.none_waits in (
      record {
        noted = subst (λ ms. Noted d ms) (sym marks) (open_noted d w.marks.items k known i.noted);
        waits = λ j e. elim (same_or_not j k) [
          | inl q ↦ inl (q ∙ sym (ap (λ (f : Frame). f.definition) current))
          | inr q ↦ absurd (i.none_open j
              (sym (mark-other w.marks.items k j Open q) ∙ subst (λ ms. mark ms j ≡ Open) marks e))
        ];
        path = subst (λ f. Path d v.waiting.items f) (sym current)
            (subst (λ fs. Path d fs (record { definition = k; next = 0; figures = figures_of [] }))
            (sym none) (start (begun d k known)));
      },
      ap (λ fs. first fs v.current) none ∙ ap (λ (f : Frame). f.definition) current,
    )

-- what a step says where nothing is left to do
pub ended : {A : Type 0} (d : List (List Item)) (w v : OpenDefinitions A) (b : Bool) → b ≡ false
    → Goes d w v b → Finished d v
ended d w v true e g = absurd (let r : ⊥ = cc in r)
ended d w v false e g = g.state

-- the end of a walk that began at `r`
pub measured_root : {A : Type 0} (d : List (List Item)) (w : OpenDefinitions A) (r : ℕ)
    → Finished d w → root w ≡ r → Measured d (definition d r) w.current.figures
measured_root d w r f e =
    subst (λ k. Measured d (definition d k) w.current.figures)
    (sym (ap (λ fs. first fs w.current) f.idle.none_waits) ∙ e) f.measured

-- before anything is done
all_untouched : (n k : ℕ) → mark (replicate n Untouched) k ≡ Untouched
all_untouched n k = elim (cases_lt k n) [
  | inl h ↦ get_or-replicate n k Untouched Untouched h
  | inr h ↦ get_or_past (replicate n Untouched) k Untouched (omega (arith, length-replicate n Untouched))
]

not_marked_done : (f : Figures) → Untouched ≡ Done f → ⊥
not_marked_done f e = cc

not_marked_open : Untouched ≡ Open → ⊥
not_marked_open e = cc

pub idle_first : {A : Type 0} (d : List (List Item)) (w : OpenDefinitions A)
    → w.marks.items ≡ replicate (length d) Untouched → w.waiting.items ≡ [] → Idle d w
idle_first d w m none = record {
  noted = record {
    marked = ap (λ ms. length ms) m ∙ length-replicate (length d) Untouched;
    done = λ k f e. absurd (not_marked_done f
        (sym (all_untouched (length d) k) ∙ subst (λ ms. mark ms k ≡ Done f) m e));
  };
  none_open = λ k e. not_marked_open (sym (all_untouched (length d) k) ∙ subst (λ ms. mark ms k ≡ Open) m e);
  none_waits = none;
}

-- ---- what the program reads

-- what reading a mark says
pub its_mark : (ms : List Mark) (k : ℕ) (x m : Mark) → k < length ms → x ≡ get_or ms k x → x ≡ m → mark ms k ≡ m
its_mark ms k x m h r e = sym (get_or_read ms k x h r Untouched) ∙ e
