-- `&&` and `||` that stay as written until a proof unfolds them. Tests that proofs compute use them; no definition of
-- the grammar does.
use Rattle.std.specs.Prelude.{Bool, true, false}

infixl 35 ◌and◌
infixl 30 ◌or◌
unfoldable pub ◌and◌ : Bool → Bool → Bool
true and b = b
false and b = false

unfoldable pub ◌or◌ : Bool → Bool → Bool
true or b = true
false or b = b
