-- The rows of a text's items: they are written one by one, and 32 bits can say their numbers.
use Rattle.std.proofs.Common.{◌≡◌, ◌∙◌, ◌≤◌, ◌<◌, ◌+◌, ◌-◌, ◌^◌, ap, sym, refl, ℕ, zero, suc, List, [], ◌∷◌, ◌++◌}
use Rattle.std.proofs.Common.{length, Option, Some, None, arith}
use Rattle.std.proofs.lemmas.List.{append-nil, append_assoc, length-append, length-take, map-append}
use Rattle.std.proofs.lemmas.List.Elements.{filter-append}
use Rattle.std.specs.List.{AllByRecursion}
use Rattle.std.specs.Prelude.{map, filter, not, true, false, Bool}
use Rattle.lexical_grammar.specs.declared.TokenKind.{TokenKind}
use Rattle.lexical_grammar.specs.declared.TokenKind.TheVariants as token
use Rattle.apollo_lexer.specs.Answers.{error_answer}
use Rattle.apollo_tree.proofs.Filling.{filled-by-none}
use Rattle.apollo_parser.specs.Answers.{Answer, limit_index_at, limited, is_token}
use Rattle.apollo_parser.specs.Diagnostics.{Diagnostic}
use Rattle.apollo_parser.specs.Filled.{filled}
use Rattle.apollo_parser.specs.LexErrors.{AreLexErrors, IsLexError}
use Rattle.apollo_parser.specs.Reads.{first_item, items_from}
use Rattle.c_parsing.specs.Items.{IsLexed, ItemBuffers, ItemsOutcome, item_row}
use Rattle.c_parsing.specs.Outcomes.{OK}
use Rattle.c_parsing.specs.Rows.{error_rows, messages}
use Rattle.c_parsing.specs.declared.rows.ErrorRow.{ErrorRow}
use Rattle.c_parsing.specs.declared.rows.ItemRow.{ItemRow}

-- ---- where items end

limit-before : (kind : Option TokenKind) (offset : ℕ) → limit_index_at kind offset ≤ offset
limit-before None offset = omega arith
limit-before (Some token.Eof) offset = omega arith
limit-before (Some _) offset = omega arith

abbrev pub EndsBefore : ℕ → Answer → Type 0
EndsBefore bound answer = (item_row answer).end < bound

none-left : (bound allowed : ℕ) → AllByRecursion (EndsBefore bound) (limited allowed [])
none-left bound zero = tt
none-left bound (suc allowed) = tt

-- the items of a text, or the first of them and the limit, end within it
pub ends-before : (bound allowed offset inside : ℕ) (source : List ℕ) → offset + length source < bound
    → AllByRecursion (EndsBefore bound) (limited allowed (items_from offset inside source))
unfolding items_from
ends-before bound zero offset inside [] le = (omega arith, tt)
ends-before bound (suc allowed) offset inside [] le = (omega arith, none-left bound allowed)
ends-before bound allowed offset (suc inside) (b ∷ bs) le =
    ends-before bound allowed (1 + offset) inside bs (omega arith)
ends-before bound zero offset zero (b ∷ bs) le =
    let before : limit_index_at (first_item (b ∷ bs)).0 offset ≤ offset = limit-before _ offset in
    (omega arith, tt)
ends-before bound (suc allowed) offset zero (b ∷ bs) le =
    let n = (first_item (b ∷ bs)).1 in
    (omega (arith, length-take n (b ∷ bs)), ends-before bound allowed (1 + offset) (n - 1) bs (omega arith))

-- ---- a loop over a lexer's answers

abbrev pub errors_of : List Answer → List Answer
errors_of answers = filter (λ answer. not (is_token answer)) answers

pub no-token : (limit : Bool) (text : List ℕ) (index : ℕ) → is_token (error_answer limit text index) ≡ false
no-token true text index = refl
no-token false text index = refl

token-more : (given : List Answer) (answer : Answer) (errors : List Diagnostic) → is_token answer ≡ true
    → AreLexErrors (errors_of given) errors
    → AreLexErrors (errors_of (given ++ answer ∷ [])) errors
token-more given answer errors is so_far = rw (filter-append, is, append-nil) so_far

lists-more : (answers : List Answer) (errors : List Diagnostic) (answer : Answer) (error : Diagnostic)
    → AreLexErrors answers errors → IsLexError answer error
    → AreLexErrors (answers ++ answer ∷ []) (errors ++ error ∷ [])
lists-more [] [] answer error so_far is = (is, tt)
lists-more [] (d ∷ ds) answer error so_far is = absurd so_far
lists-more (a ∷ rest) [] answer error so_far is = absurd so_far
lists-more (a ∷ rest) (d ∷ ds) answer error so_far is = (so_far.0, lists-more rest ds answer error so_far.1 is)

error-more : (given : List Answer) (answer : Answer) (errors : List Diagnostic) (error : Diagnostic)
    → is_token answer ≡ false → IsLexError answer error
    → AreLexErrors (errors_of given) errors → AreLexErrors (errors_of (given ++ answer ∷ [])) (errors ++ error ∷ [])
error-more given answer errors error is made so_far =
    rw (filter-append, is) (lists-more (errors_of given) errors answer error so_far made)

-- how far the loop has come: of all answers some were given, and the others are left
pub record Progress (all left : List Answer) (before rows : List ItemRow) (count : ℕ)
    (errors : List Diagnostic) : Type 0 where
  pub given : List Answer
  pub split : given ++ left ≡ all
  pub rows_are : rows ≡ filled before (map item_row given)
  pub counted : count ≡ length given
  pub errors_are : AreLexErrors (errors_of given) errors
  pub short : AllByRecursion (EndsBefore (2 ^ 32)) left

pub begun : (all left : List Answer) (before rows : List ItemRow) (errors : List Diagnostic) → left ≡ all
    → rows ≡ before → errors ≡ []
    → AllByRecursion (EndsBefore (2 ^ 32)) all → Progress all left before rows 0 errors
begun all left before rows errors same is none short = record {
  given = [];
  split = same;
  rows_are = is ∙ sym (filled-by-none before);
  counted = refl;
  errors_are = rw none tt;
  short = rw same short;
}

passed : (all old rest : List Answer) (before rows new : List ItemRow) (count : ℕ)
    (errors more : List Diagnostic) (answer : Answer)
    (p : Progress all old before rows count errors) → old ≡ answer ∷ rest
    → new ≡ filled before (map item_row p.given ++ item_row answer ∷ [])
    → AreLexErrors (errors_of (p.given ++ answer ∷ [])) more → Progress all rest before new (count + 1) more
passed all old rest before rows new count errors more answer p comes written found = record {
  given = p.given ++ answer ∷ [];
  split = append_assoc p.given (answer ∷ []) rest ∙ ap (λ l. p.given ++ l) (sym comes) ∙ p.split;
  rows_are = written ∙ ap (filled before) (sym (map-append item_row p.given (answer ∷ [])));
  counted = omega (arith, p.counted, length-append p.given (answer ∷ []));
  errors_are = found;
  short = (rw comes at p.short).1;
}

pub passed-token : (all old rest : List Answer) (before rows new : List ItemRow) (count : ℕ)
    (errors : List Diagnostic) (answer : Answer)
    (p : Progress all old before rows count errors) → old ≡ answer ∷ rest
    → new ≡ filled before (map item_row p.given ++ item_row answer ∷ [])
    → is_token answer ≡ true → Progress all rest before new (count + 1) errors
passed-token all old rest before rows new count errors answer p comes written is =
    passed all old rest before rows new count errors errors answer p comes written
    (token-more p.given answer errors is p.errors_are)

pub passed-error : (all old rest : List Answer) (before rows new : List ItemRow) (count : ℕ) (errors : List Diagnostic)
    (answer : Answer) (error : Diagnostic)
    (p : Progress all old before rows count errors) → old ≡ answer ∷ rest
    → new ≡ filled before (map item_row p.given ++ item_row answer ∷ [])
    → is_token answer ≡ false → IsLexError answer error
    → Progress all rest before new (count + 1) (errors ++ error ∷ [])
passed-error all old rest before rows new count errors answer error p comes written is made =
    passed all old rest before rows new count errors (errors ++ error ∷ []) answer p comes written
    (error-more p.given answer errors error is made p.errors_are)

-- nothing is left
pub all-given : (all left : List Answer) (before rows : List ItemRow) (count : ℕ) (errors : List Diagnostic)
    (p : Progress all left before rows count errors)
    → left ≡ [] → p.given ≡ all
all-given all left before rows count errors p none =
    sym (append-nil p.given) ∙ ap (λ l. p.given ++ l) (sym none) ∙ p.split

-- ---- the outcome

pub items-written : (source : List ℕ) (allowed : ℕ) (before : ItemBuffers) (answers : List Answer)
    (found : List Diagnostic) (rows : List ItemRow)
    (errors : List ErrorRow) (words : List ℕ) (count bytes : ℕ) → IsLexed source allowed answers found
    → rows ≡ filled before.items (map item_row answers)
    → errors ≡ filled before.errors (error_rows 0 found) → words ≡ filled before.messages (messages found)
    → count ≡ length answers
    → bytes ≡ length (messages found)
    → ItemsOutcome source allowed before (record { items = rows; errors = errors; messages = words })
    (record {
      elements = count;
      text_bytes = 0;
      errors = length found;
      message_bytes = bytes;
      recursion_high = 0;
      token_high = count;
      status = OK;
    })
items-written source allowed before answers found rows errors words count bytes is r e w c b =
    rw (r, e, w, c, b) (record {
      ok = λ _. (answers, found, is, refl, refl);
      not_utf8 = λ e. absurd (omega (arith, e));
      too_long = λ e. absurd (omega (arith, e));
      refused = λ some. absurd (some refl);
      unchanged = λ some. absurd (some refl);
      known = (0, omega arith, refl);
    })
