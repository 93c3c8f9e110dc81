-- What a buffer holds after items were written to it.
use Rattle.std.specs.Prelude.{List, ◌++◌, length, take, drop}

-- The buffer with as many of the items as it has room for, from its beginning on. What is after them stays as it was.
abbrev pub filled : {A : Type 0} → List A → List A → List A
filled buffer items = take (length buffer) items ++ drop (length items) buffer
