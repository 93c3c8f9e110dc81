-- Which signs before a first member may come or go, by the tokens before them.
use Rattle.std.specs.Prelude.{ℕ, Bool, true, false, List, bytes_eq, codes, if◌then◌else◌}
use Rattle.lexical_grammar.specs.declared.TokenKind.{TokenKind}
use Rattle.lexical_grammar.specs.declared.TokenKind.TheVariants as token
use Rattle.format_layout.specs.declared.lead.Lead.{Lead}
use Rattle.format_layout.specs.declared.lead.Lead.TheVariants.{Colon, Typed, Equals, Members, Pipe, Amp, Implements, On}
use Rattle.format_layout.specs.declared.lead.Lead.TheVariants.{Other}

abbrev pub implements_text : List ℕ
implements_text = codes "implements"

abbrev pub on_text : List ℕ
on_text = codes "on"

-- after a name that may be a word of the grammar
abbrev pub after_word : List ℕ → Lead
after_word text = if bytes_eq text on_text then On else (if bytes_eq text implements_text then Implements else Other)

-- after a name that is not one of them
abbrev pub after_member : List ℕ → Lead
after_member text = if bytes_eq text implements_text then Amp else Other

-- after a name that is not the word `implements`
abbrev pub after_interface : List ℕ → Lead
after_interface text = if bytes_eq text on_text then On else after_member text

abbrev pub after_name : Lead → List ℕ → Lead
after_name Colon text = Typed
after_name On text = after_word text
after_name Other text = after_word text
after_name Amp text = after_interface text
after_name Implements text = after_interface text
after_name Typed text = after_interface text
after_name _ text = after_member text

abbrev pub after_equals : Lead → Lead
after_equals Typed = Equals
after_equals _ = Members

-- what the last tokens say after one more
abbrev pub lead_after : Lead → TokenKind → List ℕ → Lead
lead_after lead token.Comment text = lead
lead_after lead token.Whitespace text = lead
lead_after lead token.Comma text = lead
lead_after lead token.Eof text = lead
lead_after lead token.Name text = after_name lead text
lead_after lead token.Colon text = Colon
lead_after lead token.Bang text = Typed
lead_after lead token.RBracket text = Typed
lead_after lead token.Eq text = after_equals lead
lead_after lead token.Pipe text = Pipe
lead_after lead token.Amp text = Amp
lead_after lead _ text = Other

-- a token that follows is a sign that may go
abbrev pub may_go : Lead → TokenKind → Bool
may_go Members token.Pipe = true
may_go On token.Pipe = true
may_go Implements token.Amp = true
may_go _ _ = false

-- a sign may come before a token that follows
abbrev pub may_come : Lead → TokenKind → Bool
may_come Members token.Name = true
may_come _ _ = false
