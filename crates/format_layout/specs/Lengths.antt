-- How long a formatted text can be, and how many items it can have.
use Rattle.std.specs.Prelude.{ℕ, ◌+◌, ◌*◌, min}

-- The most spaces that a line begins with, where the nodes of a document nest at most this deep: two for each level,
-- and for sixteen levels more, since the braces, parentheses and directives around a value indent its lines and are not
-- counted as nesting. A gap has no more than 65,535.
abbrev pub deepest_indent : ℕ → ℕ
deepest_indent nesting = min (2 * (nesting + 16)) 65535

-- The most bytes that are written for each byte of the source, where a line begins with at most this many spaces: the
-- byte, and if it is the first one of a token, a comma, two line feeds and the spaces before it, a sign and a space
-- that come before it, spaces that keep both from the token before, and the line feed behind a comment.
abbrev pub bytes_for_each : ℕ → ℕ
bytes_for_each indent = indent + 10

-- The most bytes that a formatted text can have, where its source nests at most this deep and has this many bytes:
-- those for each of them, and a line feed at the end.
abbrev pub longest_layout : ℕ → ℕ → ℕ
longest_layout nesting bytes = bytes_for_each (deepest_indent nesting) * bytes + 1

-- The most items that a formatted text can have, where its source has this many. For a token there are at most three, a
-- comma, white space and the token, or where a sign is put in four: white space, the sign, white space and the token.
abbrev pub most_items : ℕ → ℕ
most_items items = 4 * items
