-- What has an expansion has one only, leads into no cycle, and leads to no fragment that is not there.
use Rattle.std.proofs.Common.{◌≡◌, ℕ, zero, suc, ◌<◌, List, [], ◌∷◌, ◌++◌, length, get_or, refl, sym, ap, subst, ◌∙◌}
use Rattle.std.proofs.Common.{arith, append_assoc, false}
use Rattle.std.proofs.lemmas.List.Elements.{Contains-get_or, All-get_or}
use Rattle.std.specs.Prelude.{All, Contains}
use Rattle.cost_figures.specs.Expansion.{Expands, nothing, other, spread, is_spread, definition, within, Spreads, Leads}
use Rattle.cost_figures.specs.Expansion.{here, onward, Reaches}
use Rattle.cost_figures.specs.Outcome.{IsMeasured, AreMeasured, none, next, Explains, ExplainsAny}
use Rattle.cost_figures.specs.Walks.{Measured}
use Rattle.cost_figures.specs.declared.figures.Figures.{Figures}
use Rattle.cost_figures.specs.declared.items.Item.{Item}
use Rattle.cost_figures.specs.declared.items.Item.TheVariants.{Field, ResponseName, Alias, Directive, Spread}
use Rattle.cost_figures.specs.declared.items.Span.{Span}
use Rattle.cost_figures.specs.declared.walk.Fault.{Fault}
use Rattle.cost_figures.specs.declared.walk.Fault.TheVariants.{Cycle, Undefined, Memory}

pub Expands-append : {d : List (List Item)} {xs ys us vs : List Item} → Expands d xs ys → Expands d us vs
    → Expands d (xs ++ us) (ys ++ vs)
Expands-append nothing q = q
Expands-append (other h p) q = other h (Expands-append p q)
Expands-append {vs = vs} (spread {e = e} {ys = ys} {zs = zs} h z p) q =
    rw (append_assoc (within e zs) ys vs) (spread h z (Expands-append p q))

joined : (e : ℕ) (xs ys us vs : List Item) → xs ≡ us → ys ≡ vs → within e xs ++ ys ≡ within e us ++ vs
joined e xs ys us vs p q = ap (λ zs. within e zs ++ ys) p ∙ ap (λ zs. within e us ++ zs) q

no_spread : (e k : ℕ) (i : Span) → is_spread (Spread e k i) ≡ false → ⊥
no_spread e k i h = cc

only_one : {d : List (List Item)} {xs ys zs : List Item} → Expands d xs ys → Expands d xs zs → ys ≡ zs
only_one nothing nothing = refl
only_one (other {x = x} h p) (other i q) = ap (λ ys. x ∷ ys) (only_one p q)
only_one (other h p) (spread {e = e} {k = k} {s = i} _ _ _) = absurd (no_spread e k i h)
only_one (spread {e = e} {k = k} {s = i} _ _ _) (other h q) = absurd (no_spread e k i h)
only_one (spread {e = e} {ys = a} {zs = b} h z p) (spread {ys = a2} {zs = b2} i y q) =
    joined e b a b2 a2 (only_one z y) (only_one p q)

-- the items `xs` have a spread of a fragment that leads to `m`
record From (d : List (List Item)) (xs : List Item) (m : ℕ) : Type 0 where
  enclosing : ℕ
  fragment : ℕ
  span : Span
  is_there : Contains xs (Spread enclosing fragment span)
  leads : Leads d fragment m

record IsFine (d : List (List Item)) (m : ℕ) : Type 0 where
  known : m < length d
  acyclic : Reaches d m m → ⊥

-- the first step of one or more
first_step : {d : List (List Item)} {j l : ℕ} (m : ℕ) → Leads d j l → Spreads d l m → From d (definition d j) m
first_step m here s = record {
  enclosing = s.enclosing;
  fragment = m;
  span = s.span;
  is_there = s.is_there;
  leads = here;
}
first_step m (onward {k = k} {m = l} p t) s =
    let f = first_step l p t in
    record {
      enclosing = f.enclosing;
      fragment = f.fragment;
      span = f.span;
      is_there = f.is_there;
      leads = onward f.leads s;
    }

same_fragment : (e k : ℕ) (i : Span) (n m : ℕ) (j : Span) → Spread e k i ≡ Spread n m j → k ≡ m
same_fragment e k i n m j h = cc

-- where the first item is no spread, the spread is one of the others
later : {d : List (List Item)} (x : Item) (xs : List Item) (m : ℕ) → is_spread x ≡ false
    → From d (x ∷ xs) m → From d xs m
later {d = d} x xs m h f = go f.is_there.0 f.is_there.1 f.is_there.2
  where
    go : (i : ℕ) → i < length (x ∷ xs)
        → get_or (x ∷ xs) i (Spread f.enclosing f.fragment f.span) ≡ Spread f.enclosing f.fragment f.span → From d xs m
    go zero b a = absurd (no_spread f.enclosing f.fragment f.span (sym (ap is_spread a) ∙ h))
    go (suc i) b a = record {
      enclosing = f.enclosing;
      fragment = f.fragment;
      span = f.span;
      is_there = (i, omega arith, a);
      leads = f.leads;
    }

-- where all is fine that is reached from the definition `k`, it is fine itself, and all to which it leads
onwards : {d : List (List Item)} {k m : ℕ} → k < length d → ((j : ℕ) → From d (definition d k) j → IsFine d j)
    → Leads d k m → IsFine d m
onwards {k = k} known all here =
    record { known = known; acyclic = λ r. (all k (first_step k r.leads r.spreads)).acyclic r }
onwards {m = m} known all (onward p s) = all m (first_step m p s)

fine : {d : List (List Item)} {xs ys : List Item} → Expands d xs ys → (m : ℕ) → From d xs m → IsFine d m
fine nothing m f = absurd (omega (arith, f.is_there.1))
fine (other {x = x} {xs = xs} h p) m f = fine p m (later x xs m h f)
fine {d = d} (spread {e = e} {k = k} {s = n} {xs = xs} h z p) m f =
    go (λ l. onwards h (λ j. fine z j) l) (fine p m) f.is_there.0 f.is_there.1 f.is_there.2
  where
    go : (Leads d k m → IsFine d m) → (From d xs m → IsFine d m) → (i : ℕ) → i < length (Spread e k n ∷ xs)
        → get_or (Spread e k n ∷ xs) i (Spread f.enclosing f.fragment f.span) ≡ Spread f.enclosing f.fragment f.span
        → IsFine d m
    go inner rest zero b a =
        inner (subst (λ j. Leads d j m) (sym (same_fragment e k n f.enclosing f.fragment f.span a)) f.leads)
    go inner rest (suc i) b a =
        rest (record {
          enclosing = f.enclosing;
          fragment = f.fragment;
          span = f.span;
          is_there = (i, omega arith, a);
          leads = f.leads;
        })

pub is_measured : (d : List (List Item)) (r : ℕ) (f : Figures) → r < length d
    → Measured d (definition d r) f → IsMeasured d r f
is_measured d r f h m = record {
  expansion = m.expansion;
  expands = m.expands;
  only = λ ys e. only_one e m.expands;
  figures = m.figures;
  acyclic = λ k l c. (onwards h (λ j. fine m.expands j) l).acyclic c;
  defined = λ j k l s. (fine m.expands k (first_step k l s)).known;
}

pub measured-append : {d : List (List Item)} {rs : List ℕ} {fs : List Figures} (r : ℕ) (f : Figures)
    → AreMeasured d rs fs → IsMeasured d r f
    → AreMeasured d (rs ++ r ∷ []) (fs ++ f ∷ [])
measured-append r f none m = next m none
measured-append r f (next n ms) m = next n (measured-append r f ms m)

-- what a fault says of one of several definitions
pub one_of : (d : List (List Item)) (rs : List ℕ) (i : ℕ) (e : Fault) → i < length rs
    → Explains d (get_or rs i 0) e → ExplainsAny d rs e
one_of d rs i (Cycle n) h x = (get_or rs i 0, Contains-get_or rs i 0 h, x)
one_of d rs i (Undefined n) h x = (get_or rs i 0, Contains-get_or rs i 0 h, x)
one_of d rs i Memory h x = tt

pub all_at : (n : ℕ) (rs : List ℕ) (i : ℕ) → i < length rs → All (λ r. r < n) rs → get_or rs i 0 < n
all_at n rs i h a = All-get_or (λ r. r < n) rs i 0 h a

pub not_spread : (x : Item) → ((e k : ℕ) (i : Span) → x ≡ Spread e k i → ⊥) → is_spread x ≡ false
not_spread (Field e) h = refl
not_spread (ResponseName e) h = refl
not_spread Alias h = refl
not_spread Directive h = refl
not_spread (Spread e k i) h = absurd (h e k i refl)
