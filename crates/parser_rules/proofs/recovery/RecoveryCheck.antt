-- The computed checks of a rule that hold whatever is reported: which tokens become ERROR leaves, which symbols are in
-- a node, and that no token becomes an ignored leaf.
use Rattle.std.proofs.Common.{ℕ, ◌∷◌, Bool, true, false, cond, eqb, ltb, not}
use Rattle.lexical_grammar.specs.declared.TokenKind.TheVariants as token
use Rattle.document_grammar.specs.Booleans.{◌and◌, ◌or◌}
use Rattle.document_grammar.specs.Choices.{is_ignored}
use Rattle.document_grammar.specs.Kinds.{ERROR, SPREAD, NON_NULL_TYPE, DOCUMENT}
use Rattle.document_grammar.specs.Numbers.{number}
use Rattle.document_grammar.specs.Pattern.{member}
use Rattle.document_grammar.specs.Recovery.{symbols}
use Rattle.document_grammar.specs.Rows.{Row}
use Rattle.document_grammar.specs.declared.kind.SyntaxKind.{SyntaxKind}
use Rattle.document_grammar.specs.declared.kind.SyntaxKind.TheVariants as kind
use Rattle.parser_rules.proofs.leaves.LeafCheck.{is_error}
use Rattle.parser_rules.proofs.runs.Walk.{Domain, steady}
use Rattle.parser_rules.specs.Nodes.{kind_of}
use Rattle.parser_rules.specs.RuleLanguage.{Kind, Test, Here, HasNext, Not, Both}

-- ---- popped tokens

-- where the test passes, the current token is no `]`
abbrev pub excludes : Test → Bool
excludes (Not (Here (Kind token.RBracket))) = true
excludes (Both test other_test) = excludes test or excludes other_test
excludes _ = false

-- where the test fails, no significant token follows the current one
abbrev pub asks_next : Test → Bool
asks_next HasNext = true
asks_next _ = false

abbrev pub is_list : SyntaxKind → Bool
is_list kind.LIST_VALUE = true
is_list _ = false

-- which tokens may still be popped in a node: any, as in the root; all but `]`, as in a list; one, or none
pub data Room : Type 0 where
  any_token : Room
  no_bracket : Room
  one_token : Room
  no_token : Room

abbrev pub same_room : Room → Room → Bool
same_room any_token any_token = true
same_room no_bracket no_bracket = true
same_room one_token one_token = true
same_room no_token no_token = true
same_room _ _ = false

-- the room at the end of a node of the kind
abbrev pub room_of : SyntaxKind → Room → Bool
room_of this_kind any_token = false
room_of this_kind no_bracket = is_list this_kind
room_of this_kind one_token = not (is_list this_kind)
room_of this_kind no_token = not (is_list this_kind)

-- Of the current token: a report was made at it, the token limit cuts the text off after it, it is no `]`. And the room
-- that is left.
pub record Popping : Type 0 where
  pub told : Bool
  pub cut : Bool
  pub spared : Bool
  pub room : Room

abbrev pub unknown : Room → Popping
unknown this_room = record { told = false; cut = false; spared = false; room = this_room }

-- one token more is popped
abbrev pub pop : Popping → Room → (Popping → Bool) → Bool
pop popping any_token rest = rest (unknown any_token)
pop popping no_bracket rest = popping.spared and rest (unknown no_bracket)
pop popping one_token rest = cond popping.cut (rest (unknown one_token)) (rest (unknown no_token))
pop popping no_token rest = popping.cut and rest (unknown no_token)

-- A token that becomes an ERROR leaf has a report, and it is the only one of its node, but for those of the root, and
-- of a LIST_VALUE, which are no `]`.
unfoldable pub pop_check : Domain Popping
pop_check = record (steady (unknown any_token)) {
  leaf = λ j a k. cond (is_error j) (a.told and pop a a.room k) (k (unknown a.room));
  report = λ a. record a { told = true };
  limit = λ a k. k (unknown a.room);
  test = λ q a f g. f (record a { spared = a.spared or excludes q }) and g (record a { cut = a.cut or asks_next q });
  turn = λ a. unknown a.room;
  keeps = λ a c. same_room a.room c.room;
  begins = λ n. unknown (cond (is_list (kind_of n)) no_bracket one_token);
  ends = λ j a. room_of j a.room;
  after = λ j a k. k (unknown a.room);
  types = λ a. unknown one_token;
  plain = λ a c k. same_room c.room one_token and k (unknown a.room);
}

-- ---- the symbols of a row

-- a symbol of the row of the kind with the number
unfoldable pub of_row : ℕ → SyntaxKind → Bool
of_row k this_kind = member (number this_kind) (symbols (Row k))

-- an ignored leaf, an ERROR or a SPREAD, or a symbol of the row
unfoldable pub leaf_of_row : ℕ → SyntaxKind → Bool
leaf_of_row k this_kind = is_ignored (number this_kind) or member (number this_kind) (ERROR ∷ SPREAD ∷ symbols (Row k))

-- the row of the open node, and a second one that a type's children fit too: it may be wrapped later
pub record Two_rows : Type 0 where
  pub own : ℕ
  pub later : ℕ

-- where a node of the kind is open
abbrev pub row_of : SyntaxKind → Two_rows
row_of this_kind = record { own = number this_kind; later = number this_kind }

-- only what is of the row is added
unfoldable pub row_check : Domain Two_rows
row_check = record (steady (record { own = DOCUMENT; later = DOCUMENT })) {
  leaf = λ j a k. (leaf_of_row a.own j and leaf_of_row a.later j) and k a;
  keeps = λ a c. eqb a.own c.own and eqb a.later c.later;
  begins = λ n. row_of (kind_of n);
  ends = λ j a. eqb a.own (number j);
  after = λ j a k. (of_row a.own j and of_row a.later j) and k a;
  types = λ a. record a { later = NON_NULL_TYPE };
  plain = λ a c k. (eqb c.own a.own and eqb a.later a.own) and k a;
  wraps = λ a k. eqb a.later NON_NULL_TYPE and k (record { own = NON_NULL_TYPE; later = NON_NULL_TYPE });
}

-- ---- ignored leaves

-- No token becomes an ignored leaf: what is known is whether a node was added.
unfoldable pub tidy_check : Domain Bool
tidy_check = record (steady false) {
  leaf = λ j a k. not (ltb (number j) ERROR) and k a;
  turn = λ a. false;
  keeps = λ a c. true;
  after = λ j a k. k true;
  types = λ a. false;
  plain = λ a c k. c and k true;
}
