-- The computed check that the tokens which a rule takes pay for its elements and reports. It keeps an account, as
-- amortized analysis does: each item pays a fixed sum in; each element of the tree, and each report, takes its cost
-- out. The account is never overdrawn.
use Rattle.std.proofs.Common.{◌≡◌, ℕ, zero, suc, ◌+◌, ◌-◌, ◌^◌, Bool, true, false, cond, not, eqb, leb, bit_and, Option}
use Rattle.std.proofs.Common.{Some, None}
use Rattle.lexical_grammar.specs.declared.TokenKind.TheVariants as token
use Rattle.document_grammar.specs.Booleans.{◌and◌, ◌or◌}
use Rattle.grammar_machine.proofs.Checks.{subset}
use Rattle.grammar_machine.proofs.Sound.{any}
use Rattle.grammar_machine.proofs.generated.Follows.{name_classes}
use Rattle.parser_rules.proofs.lookahead.FirstSets.{without}
use Rattle.parser_rules.proofs.lookahead.Split.{split}
use Rattle.parser_rules.proofs.lookahead.TokenSets.{absent, present, part}
use Rattle.parser_rules.proofs.runs.Fuel.{root_rules_deep_for_sizes}
use Rattle.parser_rules.specs.Nodes.{Node}
use Rattle.parser_rules.specs.RuleLanguage.{Test, Ready, Deep, Not, Both, At, Bump, Note, Rule, Skip, Do, Seq, When}
use Rattle.parser_rules.specs.RuleLanguage.{While, Child, TooDeep, Nested, Call, Typed}
use Rattle.parser_rules.specs.Rules.{inside, body}

-- ---- rates

-- What an item pays, and what an element and a report cost. The loop over a document's definitions may owe the debt
-- where a token that is no name comes next: such a token costs less, as a definition, than it pays.
pub record Rates : Type 0 where
  pub item : ℕ
  pub element : ℕ
  pub report : ℕ
  pub debt : ℕ

-- an item pays for five elements
abbrev pub element_rates : Rates
element_rates = record { item = 5; element = 1; report = 0; debt = 0 }

-- or for three reports
abbrev pub report_rates : Rates
report_rates = record { item = 3; element = 0; report = 1; debt = 1 }

-- ---- the account

-- Sets of classes of the current token and of the next one, whether the recursion limit is surely not reached, the
-- credit with which the turns of a loop began that goes on here, and the credit that is left.
pub record Account : Type 0 where
  pub near : ℕ
  pub far : ℕ
  pub below_limit : Bool
  pub turns : Option ℕ
  pub credit : ℕ

-- nothing is known but a set of the current token, and the credit
abbrev pub opening : ℕ → ℕ → Account
opening x c = record { near = x; far = any; below_limit = false; turns = None; credit = c }

abbrev pub spend : ℕ → Account → (Account → Bool) → Bool
spend x account rest = leb x account.credit and rest (record account { credit = account.credit - x })

-- where no token is left, and where one is, or the end
abbrev pub by_token : Account → (Account → Bool) → (Account → Bool) → Bool
by_token account f g = part true (bit_and account.near (2 ^ absent)) (λ z. f (record account { near = z }))
    and part true (bit_and account.near present) (λ z. g (record account { near = z }))

-- a report is made only where a token or the end is
abbrev pub report : Rates → Account → (Account → Bool) → Bool
report rates account rest = by_token account rest (λ b. spend rates.report b rest)

-- the report of the recursion limit; it goes on once, since the walk would be too long otherwise
abbrev pub report_limit : Rates → Account → (Account → Bool) → Bool
report_limit rates account rest =
    elim (eqb (bit_and account.near present) 0) [ true ↦ rest account | false ↦ spend rates.report account rest ]

-- a token pays, and costs its leaf; where there is none, nothing is taken
abbrev pub take : Rates → Account → (Account → Bool) → Bool
take rates account rest = by_token account rest (λ b. rest (opening b.far (b.credit + (rates.item - rates.element))))

-- where the test passes, the recursion limit is not reached
abbrev pub asks_limit : Test → Bool
asks_limit (Not Deep) = true
asks_limit (Both test other_test) = asks_limit test or asks_limit other_test
asks_limit _ = false

-- the records are written out here: as calls they would be computed anew for each of their fields
abbrev pub ask : Test → Account → (Account → Bool) → (Account → Bool) → Bool
ask test account f g = split (λ x y. x and y) true test account.near account.far
    (λ x y. f (record {
      near = x;
      far = y;
      below_limit = account.below_limit or asks_limit test;
      turns = None;
      credit = account.credit;
    }))
    (λ x y. g (record { near = x; far = y; below_limit = account.below_limit; turns = None; credit = account.credit }))

-- within a level, and after it, as little is known of the limit as at first
abbrev pub level : Account → Account
level account = record account { below_limit = false; turns = None }

-- ---- nodes

-- a rule that takes a token first
abbrev pub takes_first : Rule → Bool
takes_first (Seq (Do (Bump leaf)) rule) = true
takes_first _ = false

-- the least that such a node leaves of its tokens' payment
abbrev pub saving : ℕ
saving = 1

-- enough for the nodes that a rule opens before it takes a token
abbrev pub enough : ℕ
enough = 20

-- ---- loops

unfoldable pub saved : Rule → ℕ
saved (Child node) = cond (takes_first (inside node)) saving 0
saved _ = 0

-- the tokens that are no names, and the end
abbrev pub others : ℕ
others = without present name_classes

abbrev pub debt : Rates → Test → ℕ
debt rates Ready = rates.debt
debt rates _ = 0

-- a turn leaves no less credit than there was, but for the debt
abbrev pub keeps : Rates → Test → ℕ → Account → Bool
keeps rates test c account =
    leb c account.credit or (subset account.near others and leb c (account.credit + debt rates test))

-- the turns that follow a turn, from this credit on, and from the debt
abbrev pub later : Rates → Test → (Account → (Account → Bool) → Bool) → ℕ → (Account → Bool) → Bool
later rates test turn c rest = ask test (opening any c) (λ b. turn b (keeps rates test c)) rest
    and (eqb (debt rates test) 0
    or ask test (opening others (c - debt rates test)) (λ b. turn b (keeps rates test c)) rest)

-- the first turn knows what is known in front of the loop; a node that pays for itself leaves more for the turns after
-- it
abbrev pub loop : Rates → Test → ℕ → (Account → (Account → Bool) → Bool) → Option ℕ → Account → (Account → Bool) → Bool
loop rates test more turn None account rest = ask test account (λ b. turn b (keeps rates test (account.credit + more))
    and later rates test turn (account.credit + more) rest) rest
loop rates test more turn (Some c) account rest = keeps rates test c account and later rates test turn c rest

-- ---- the walk

-- A node that takes a token first, where there is one, is paid for as a whole: its own check ends the recursion of the
-- grammar. Each other node is walked at its place. The number bounds how deep nodes and parts are walked.
unfoldable pub walk : Rates → ℕ → Rule → Account → (Account → Bool) → Bool
walk rates n Skip account rest = rest account
walk rates n (Do (Bump leaf)) account rest = take rates account rest
walk rates n (Do (Note message)) account rest = report rates account rest
walk rates n (Seq rule other_rule) account rest = walk rates n rule account (λ b. walk rates n other_rule b rest)
walk rates n (When test rule other_rule) account rest =
    ask test account (λ b. walk rates n rule b rest) (λ b. walk rates n other_rule b rest)
walk rates n (While test rule) account rest =
    loop rates test (saved rule) (λ b c. walk rates n rule b c) account.turns account rest
walk rates zero (Child node) account rest = false
walk rates (suc n) (Child node) account rest = elim (takes_first (inside node)
    and subset account.near present) [
      | true ↦ rest (opening any (account.credit + saving))
      | false ↦
          spend rates.element account (λ b. walk rates n (inside node) b rest)
    ]
walk rates n TooDeep account rest = report_limit rates account rest
walk rates n (Nested rule other_rule) account rest = (account.below_limit or report_limit rates account rest)
    and walk rates n rule (level account) (λ b. walk rates n other_rule (level b) rest)
walk rates zero (Call this_part) account rest = false
walk rates (suc n) (Call this_part) account rest = walk rates n (body this_part) account rest
walk rates n (Typed rule) account rest =
    walk rates n rule account (λ b. ask (At token.Bang) b (λ c. spend rates.element c (λ e. take rates e rest)) rest)

-- the check of a node that takes a token first, with so much fuel: its tokens pay for it too, and leave the saving
unfoldable pub pays_for_itself : ℕ → Rates → Node → Bool
pays_for_itself fuel rates node =
    not (takes_first (inside node)) or walk rates fuel (inside node) (opening present (enough - rates.element))
    (λ a. leb (enough + saving) a.credit)

-- nothing more is owed at the end than what a token that is still there could pay
abbrev pub settles : Rates → Account → Bool
settles rates account =
    leb enough account.credit or (subset account.near present and leb enough (account.credit + rates.item))

-- the check of a root's rule, where the current token is in the set
unfoldable pub root_pays : Rates → ℕ → Rule → Bool
root_pays rates x rule = walk rates root_rules_deep_for_sizes rule (opening x enough) (settles rates)

-- the rule pays for its elements and its reports
pub record PaysForAll (x : ℕ) (rule : Rule) : Type 0 where
  pub elements : root_pays element_rates x rule ≡ true
  pub reports : root_pays report_rates x rule ≡ true
