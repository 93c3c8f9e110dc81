-- Rules, one after another.
use Rattle.std.proofs.Common.{◌≡◌, ℕ, List, [], ◌∷◌, ◌++◌, map, Option, Some, None, sym, ap, ◌∙◌, append_assoc}
use Rattle.std.proofs.lemmas.List.{map-append}
use Rattle.std.specs.List.{cons_option, filter_map}
use Rattle.ignore_rules.specs.Fits.{Sign}
use Rattle.ignore_rules.specs.Lines.{Rule, rule_of}

-- the rule of one line more
pub rules_more : {X : Type 0} (folder : List Sign) (view : X → Rule) (items new : List X) (x : X) (line : List ℕ)
    (rest left : List (List ℕ)) (all : List Rule)
    → all ≡ map view items ++ filter_map (rule_of folder) left → left ≡ line ∷ rest
    → Some (view x) ≡ rule_of folder line → new ≡ items ++ x ∷ []
    → all ≡ map view new ++ filter_map (rule_of folder) rest
rules_more {X = X} folder view items new x line rest left all so_far cut is pushed =
    so_far ∙ ap (λ (ps : List (List ℕ)). map view items ++ filter_map (rule_of folder) ps) cut
    ∙ ap (λ (o : Option Rule). map view items ++ cons_option o (filter_map (rule_of folder) rest)) (sym is)
    ∙ sym (append_assoc (map view items) (view x ∷ []) (filter_map (rule_of folder) rest))
    ∙ ap (λ (rs : List Rule). rs ++ filter_map (rule_of folder) rest) (sym (map-append view items (x ∷ [])))
    ∙ ap (λ (xs : List X). map view xs ++ filter_map (rule_of folder) rest) (sym pushed)

-- a line without a rule
pub no_rule : {X : Type 0} (folder : List Sign) (view : X → Rule) (items : List X) (line : List ℕ)
    (rest left : List (List ℕ)) (all : List Rule)
    → all ≡ map view items ++ filter_map (rule_of folder) left → left ≡ line ∷ rest → None ≡ rule_of folder line
    → all ≡ map view items ++ filter_map (rule_of folder) rest
no_rule folder view items line rest left all so_far cut is =
    so_far ∙ ap (λ (ps : List (List ℕ)). map view items ++ filter_map (rule_of folder) ps) cut
    ∙ ap (λ (o : Option Rule). map view items ++ cons_option o (filter_map (rule_of folder) rest)) (sym is)
