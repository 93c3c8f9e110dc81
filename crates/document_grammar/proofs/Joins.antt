-- One list of trees after another.
use Rattle.std.proofs.Common.{◌≡◌, ◌+◌, ◌++◌, refl, sym, ap, ◌∙◌, arith}
use Rattle.std.proofs.lemmas.List.{append_assoc}
use Rattle.document_grammar.specs.Forests.{Forest, none, leaf, node, text, count, join}

pub join-none : (f : Forest) → join f none ≡ f
join-none none = refl
join-none (leaf k s rest) = ap (leaf k s) (join-none rest)
join-none (node k kids rest) = ap (node k kids) (join-none rest)

pub join-assoc : (f g h : Forest) → join (join f g) h ≡ join f (join g h)
join-assoc none g h = refl
join-assoc (leaf k s rest) g h = ap (leaf k s) (join-assoc rest g h)
join-assoc (node k kids rest) g h = ap (node k kids) (join-assoc rest g h)

pub count-join : (f g : Forest) → count (join f g) ≡ count f + count g
count-join none g = omega arith
count-join (leaf k s rest) g = omega (arith, count-join rest g)
count-join (node k kids rest) g = omega (arith, count-join rest g)

pub text-join : (f g : Forest) → text (join f g) ≡ text f ++ text g
text-join none g = refl
text-join (leaf k s rest) g = ap (λ t. s ++ t) (text-join rest g) ∙ sym (append_assoc s (text rest) (text g))
text-join (node k kids rest) g =
    ap (λ t. text kids ++ t) (text-join rest g) ∙ sym (append_assoc (text kids) (text rest) (text g))
