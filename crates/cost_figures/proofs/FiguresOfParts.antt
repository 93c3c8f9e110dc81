-- The figures of joined lists, and of lists that more fields enclose.
use Rattle.std.proofs.Common.{◌≡◌, ℕ, zero, suc, ◌+◌, ◌<◌, max, Bool, false, cond, List, [], ◌∷◌, ◌++◌, refl, sym, ap}
use Rattle.std.proofs.Common.{◌∙◌, arith, count_by}
use Rattle.std.proofs.lemmas.List.Sums.{sum_by-append, sum_by-cons}
use Rattle.cost_figures.specs.Counts.{is_field, is_root_field, is_response_name, is_root_response_name, is_alias}
use Rattle.cost_figures.specs.Counts.{is_directive, depth, root_part, lowered, capped, figures_of}
use Rattle.cost_figures.specs.Expansion.{below, within}
use Rattle.cost_figures.specs.declared.figures.Figures.{Figures}
use Rattle.cost_figures.specs.declared.items.Item.{Item}
use Rattle.cost_figures.specs.declared.items.Item.TheVariants.{Field, ResponseName, Alias, Directive, Spread}

-- ---- joined lists

depth-append : (xs ys : List Item) → depth (xs ++ ys) ≡ max (depth xs) (depth ys)
depth-append [] ys = omega arith
depth-append (x ∷ xs) ys = omega (arith, depth-append xs ys)

count_by-append : (p : Item → Bool) (xs ys : List Item) → count_by p (xs ++ ys) ≡ count_by p xs + count_by p ys
count_by-append p xs ys = sum_by-append (λ x. cond (p x) 1 0) xs ys

capped-sum : (a b m n : ℕ) → a ≡ capped m → b ≡ capped n → capped (a + b) ≡ capped (m + n)
capped-sum a b m n p q = omega (arith, p, q)

capped-count : (p : Item → Bool) (xs ys : List Item) (a b c : ℕ) → a ≡ capped (count_by p xs)
    → b ≡ capped (count_by p ys) → c ≡ capped (a + b)
    → c ≡ capped (count_by p (xs ++ ys))
capped-count p xs ys a b c h k e =
    e ∙ capped-sum a b (count_by p xs) (count_by p ys) h k ∙ ap capped (sym (count_by-append p xs ys))

same_figures : (f g : Figures) → f.depth ≡ g.depth → f.fields ≡ g.fields → f.root_fields ≡ g.root_fields
    → f.aliases ≡ g.aliases → f.directives ≡ g.directives
    → f.height ≡ g.height → f.distinct_root_fields ≡ g.distinct_root_fields → f ≡ g
same_figures f g a b c d e h i =
    let r : ◌≡◌ {A = Figures}
    record {
      depth = f.depth;
      fields = f.fields;
      root_fields = f.root_fields;
      aliases = f.aliases;
      directives = f.directives;
      height = f.height;
      distinct_root_fields = f.distinct_root_fields;
    }
    record {
      depth = g.depth;
      fields = g.fields;
      root_fields = g.root_fields;
      aliases = g.aliases;
      directives = g.directives;
      height = g.height;
      distinct_root_fields = g.distinct_root_fields;
    } = cc in r

pub plus : (f g r : Figures) (xs ys : List Item) → f ≡ figures_of xs → g ≡ figures_of ys
    → r.depth ≡ max f.depth g.depth → r.fields ≡ capped (f.fields + g.fields)
    → r.root_fields ≡ capped (f.root_fields + g.root_fields)
    → r.aliases ≡ capped (f.aliases + g.aliases) → r.directives ≡ capped (f.directives + g.directives)
    → r.height ≡ capped (f.height + g.height)
    → r.distinct_root_fields ≡ capped (f.distinct_root_fields + g.distinct_root_fields) → r ≡ figures_of (xs ++ ys)
plus f g r xs ys a b depths fields roots aliases directives heights names =
    same_figures r (figures_of (xs ++ ys))
    (omega (arith, depth-append xs ys, depths, ap (λ (h : Figures). h.depth) a, ap (λ (h : Figures). h.depth) b))
    (capped-count is_field xs ys f.fields g.fields r.fields (ap (λ (h : Figures). h.fields) a)
    (ap (λ (h : Figures). h.fields) b) fields)
    (capped-count is_root_field xs ys f.root_fields g.root_fields r.root_fields (ap (λ (h : Figures). h.root_fields) a)
    (ap (λ (h : Figures). h.root_fields) b) roots)
    (capped-count is_alias xs ys f.aliases g.aliases r.aliases (ap (λ (h : Figures). h.aliases) a)
    (ap (λ (h : Figures). h.aliases) b) aliases)
    (capped-count is_directive xs ys f.directives g.directives r.directives (ap (λ (h : Figures). h.directives) a)
    (ap (λ (h : Figures). h.directives) b) directives)
    (capped-count is_response_name xs ys f.height g.height r.height (ap (λ (h : Figures). h.height) a)
    (ap (λ (h : Figures). h.height) b) heights)
    (capped-count is_root_response_name xs ys f.distinct_root_fields g.distinct_root_fields r.distinct_root_fields
    (ap (λ (h : Figures). h.distinct_root_fields) a) (ap (λ (h : Figures). h.distinct_root_fields) b) names)

-- ---- lists that more fields enclose

lowered-some : (d n : ℕ) → 0 < d → lowered d n ≡ d + n
lowered-some zero n h = absurd (omega arith)
lowered-some (suc d) n h = refl

deeper : (d e n : ℕ) → lowered (max (e + 1) d) n ≡ max (n + e + 1) (lowered d n)
deeper zero e n = lowered-some (max (e + 1) 0) n (omega arith)
    ∙ (let h : max (e + 1) 0 + n ≡ max (n + e + 1) 0 = omega arith in h)
deeper (suc d) e n =
    lowered-some (max (e + 1) (suc d)) n (omega arith)
    ∙ (let h : max (e + 1) (suc d) + n ≡ max (n + e + 1) (suc d + n) = omega arith in h)

max-none : (d : ℕ) → max 0 d ≡ d
max-none d = omega arith

depth-within : (n : ℕ) (xs : List Item) → depth (within n xs) ≡ lowered (depth xs) n
depth-within n [] = refl
depth-within n (Field e ∷ xs) = ap (λ d. max (n + e + 1) d) (depth-within n xs) ∙ sym (deeper (depth xs) e n)
depth-within n (ResponseName e ∷ xs) =
    max-none (depth (within n xs)) ∙ depth-within n xs ∙ ap (λ d. lowered d n) (sym (max-none (depth xs)))
depth-within n (Alias ∷ xs) =
    max-none (depth (within n xs)) ∙ depth-within n xs ∙ ap (λ d. lowered d n) (sym (max-none (depth xs)))
depth-within n (Directive ∷ xs) =
    max-none (depth (within n xs)) ∙ depth-within n xs ∙ ap (λ d. lowered d n) (sym (max-none (depth xs)))
depth-within n (Spread e k i ∷ xs) =
    max-none (depth (within n xs)) ∙ depth-within n xs ∙ ap (λ d. lowered d n) (sym (max-none (depth xs)))

count_by-cons : (p : Item → Bool) (x : Item) (xs : List Item) → count_by p (x ∷ xs) ≡ cond (p x) 1 0 + count_by p xs
count_by-cons p x xs = sum_by-cons (λ x. cond (p x) 1 0) x xs

-- what a test that gives the same of an enclosed item counts
count_by-within : (p q : Item → Bool) (n : ℕ) → ((x : Item) → p (below n x) ≡ q x) → (xs : List Item)
    → count_by p (within n xs) ≡ count_by q xs
count_by-within p q n same [] = refl
count_by-within p q n same (x ∷ xs) =
    count_by-cons p (below n x) (within n xs) ∙ ap (λ b. cond b 1 0 + count_by p (within n xs)) (same x)
    ∙ ap (λ c. cond (q x) 1 0 + c) (count_by-within p q n same xs) ∙ sym (count_by-cons q x xs)

abbrev never : Item → Bool
never x = false

count_by-never : (xs : List Item) → count_by never xs ≡ 0
count_by-never [] = refl
count_by-never (x ∷ xs) =
    count_by-cons never x xs ∙ (let h : 0 + count_by never xs ≡ 0 = omega (arith, count_by-never xs) in h)

field_same : (n : ℕ) (x : Item) → is_field (below n x) ≡ is_field x
field_same n (Field e) = refl
field_same n (ResponseName e) = refl
field_same n Alias = refl
field_same n Directive = refl
field_same n (Spread e k i) = refl

response_name_same : (n : ℕ) (x : Item) → is_response_name (below n x) ≡ is_response_name x
response_name_same n (Field e) = refl
response_name_same n (ResponseName e) = refl
response_name_same n Alias = refl
response_name_same n Directive = refl
response_name_same n (Spread e k i) = refl

alias_same : (n : ℕ) (x : Item) → is_alias (below n x) ≡ is_alias x
alias_same n (Field e) = refl
alias_same n (ResponseName e) = refl
alias_same n Alias = refl
alias_same n Directive = refl
alias_same n (Spread e k i) = refl

directive_same : (n : ℕ) (x : Item) → is_directive (below n x) ≡ is_directive x
directive_same n (Field e) = refl
directive_same n (ResponseName e) = refl
directive_same n Alias = refl
directive_same n Directive = refl
directive_same n (Spread e k i) = refl

zero-add : (e : ℕ) → 0 + e ≡ e
zero-add e = omega arith

root_field_same : (x : Item) → is_root_field (below 0 x) ≡ is_root_field x
root_field_same (Field e) = ap (λ n. is_root_field (Field n)) (zero-add e)
root_field_same (ResponseName e) = refl
root_field_same Alias = refl
root_field_same Directive = refl
root_field_same (Spread e k i) = refl

root_response_name_same : (x : Item) → is_root_response_name (below 0 x) ≡ is_root_response_name x
root_response_name_same (Field e) = refl
root_response_name_same (ResponseName e) = ap (λ n. is_root_response_name (ResponseName n)) (zero-add e)
root_response_name_same Alias = refl
root_response_name_same Directive = refl
root_response_name_same (Spread e k i) = refl

suc-add : (n e : ℕ) → suc n + e ≡ suc (n + e)
suc-add n e = omega arith

root_field_never : (n : ℕ) (x : Item) → is_root_field (below (suc n) x) ≡ never x
root_field_never n (Field e) = ap (λ m. is_root_field (Field m)) (suc-add n e)
root_field_never n (ResponseName e) = refl
root_field_never n Alias = refl
root_field_never n Directive = refl
root_field_never n (Spread e k i) = refl

root_response_name_never : (n : ℕ) (x : Item) → is_root_response_name (below (suc n) x) ≡ never x
root_response_name_never n (Field e) = refl
root_response_name_never n (ResponseName e) = ap (λ m. is_root_response_name (ResponseName m)) (suc-add n e)
root_response_name_never n Alias = refl
root_response_name_never n Directive = refl
root_response_name_never n (Spread e k i) = refl

root_count : (p : Item → Bool) → ((x : Item) → p (below 0 x) ≡ p x)
    → ((n : ℕ) (x : Item) → p (below (suc n) x) ≡ never x)
    → (n : ℕ) (xs : List Item) → count_by p (within n xs) ≡ root_part n (count_by p xs)
root_count p same none zero xs = count_by-within p p 0 same xs
root_count p same none (suc n) xs = count_by-within p never (suc n) (none n) xs ∙ count_by-never xs

capped-lowered : (d n : ℕ) → capped (lowered (capped d) n) ≡ capped (lowered d n)
capped-lowered zero n = refl
capped-lowered (suc d) n = ap capped (lowered-some (capped (suc d)) n (omega arith))
    ∙ (let h : capped (capped (suc d) + n) ≡ capped (suc d + n) = omega arith in h)

capped-root_part : (n c : ℕ) → root_part n (capped c) ≡ capped (root_part n c)
capped-root_part zero c = refl
capped-root_part (suc n) c = refl

capped-root : (p : Item → Bool) → ((x : Item) → p (below 0 x) ≡ p x)
    → ((n : ℕ) (x : Item) → p (below (suc n) x) ≡ never x)
    → (n : ℕ) (xs : List Item) (a r : ℕ) → a ≡ capped (count_by p xs) → r ≡ root_part n a
    → r ≡ capped (count_by p (within n xs))
capped-root p same none n xs a r h e =
    e ∙ ap (λ c. root_part n c) h ∙ capped-root_part n (count_by p xs) ∙ ap capped (sym (root_count p same none n xs))

pub enclosed : (f r : Figures) (n : ℕ) (xs : List Item) → f ≡ figures_of xs
    → r.depth ≡ capped (lowered f.depth n) → r.fields ≡ f.fields → r.root_fields ≡ root_part n f.root_fields
    → r.aliases ≡ f.aliases
    → r.directives ≡ f.directives → r.height ≡ f.height → r.distinct_root_fields ≡ root_part n f.distinct_root_fields
    → r ≡ figures_of (within n xs)
enclosed f r n xs a depths fields roots aliases directives heights names =
    same_figures r (figures_of (within n xs))
    (depths ∙ ap (λ (h : Figures). capped (lowered h.depth n)) a ∙ capped-lowered (depth xs) n
    ∙ ap capped (sym (depth-within n xs)))
    (fields ∙ ap (λ (h : Figures). h.fields) a
    ∙ ap capped (sym (count_by-within is_field is_field n (field_same n) xs)))
    (capped-root is_root_field root_field_same root_field_never n xs f.root_fields r.root_fields
    (ap (λ (h : Figures). h.root_fields) a) roots)
    (aliases ∙ ap (λ (h : Figures). h.aliases) a
    ∙ ap capped (sym (count_by-within is_alias is_alias n (alias_same n) xs)))
    (directives ∙ ap (λ (h : Figures). h.directives) a
    ∙ ap capped (sym (count_by-within is_directive is_directive n (directive_same n) xs)))
    (heights ∙ ap (λ (h : Figures). h.height) a
    ∙ ap capped (sym (count_by-within is_response_name is_response_name n (response_name_same n) xs)))
    (capped-root is_root_response_name root_response_name_same root_response_name_never n xs f.distinct_root_fields
    r.distinct_root_fields
    (ap (λ (h : Figures). h.distinct_root_fields) a) names)
