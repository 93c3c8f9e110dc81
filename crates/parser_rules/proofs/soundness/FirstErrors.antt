-- What the first report of a text means, in the words of the definitions.
use Rattle.std.proofs.Common.{◌≡◌, ◌≢◌, ℕ, zero, suc, ◌+◌, ◌-◌, true, false, true≢false, List, [], ◌∷◌, ◌++◌, length}
use Rattle.std.proofs.Common.{take, Option, None, refl, sym, ap, ap₂, ◌∙◌, subst, ◌⊎◌, inl, inr, arith, is_some}
use Rattle.std.proofs.Common.{length-append, length-take, ◌≤◌, ◌<◌}
use Rattle.std.specs.Prelude.{map}
use Rattle.lexical_grammar.specs.Answers.{limited, limit_index, is_end}
use Rattle.lexical_grammar.specs.Cut.{Item, Cut, CutFrom}
use Rattle.lexical_grammar.specs.declared.TokenKind.{TokenKind}
use Rattle.lexical_grammar.specs.declared.TokenKind.TheVariants as token
use Rattle.document_grammar.proofs.Booleans.{either}
use Rattle.document_grammar.proofs.Shown.{cut-shown, before-shown, cut-from, text-before}
use Rattle.document_grammar.specs.Derivation.{Sort, Terminal, word, terminals}
use Rattle.document_grammar.specs.FirstError.{At, shown_kind, shown_item, shown, AreAmong, NotLate, NotEarly}
use Rattle.document_grammar.specs.FirstError.{NotEarlyLimit}
use Rattle.document_grammar.specs.Sentence.{Begins, StartSentence, StartSentenceWithin, tokens_of}
use Rattle.document_grammar.specs.Tree.{Text, Token}
use Rattle.parser_rules.proofs.reports.AlongItems.{item_of}
use Rattle.parser_rules.proofs.reports.AtTheLimit.{found-other}
use Rattle.parser_rules.proofs.reports.NoReport.{ends}
use Rattle.parser_rules.proofs.runs.Reading.{Reading, bad_text as bad_item, waits, shows, looks, ignored-kinds}
use Rattle.parser_rules.proofs.soundness.OverTexts.{Answered, Reason, fault, too_deep, bad_text, too_many, IsRight}
use Rattle.parser_rules.specs.Messages.{is_limit}
use Rattle.parser_rules.specs.State.{State, Report, Lexeme, at_limit, token_limit_report, ignored}

-- ---- what is shown after the current token was answered

-- any but an ignored token shows one terminal
one-shown : (token_kind : TokenKind) (text : Text) → ignored token_kind ≡ None → length (shown_kind token_kind text) ≡ 1
one-shown token.Whitespace text h = absurd cc
one-shown token.Comment text h = absurd cc
one-shown token.Comma text h = absurd cc
one-shown _ text h = refl

second-there : (n : ℕ) (more : List Item) {state after : State} → Reading (limited n more) state after
    → 0 < length (shown (take n more))
    → is_some after.current ≡ true
second-there zero more reading h = absurd (omega (arith, h))
second-there (suc n) [] reading h = absurd (omega (arith, h))
second-there (suc n) (item ∷ more) (bad_item i reading) h = second-there n more reading (rw i at h)
second-there (suc n) (item ∷ more) (waits {this_token_kind = k} {own = own} i j reading) h =
    second-there n more reading
    (rw (i, ignored-kinds (λ k own. shown_kind k item.text ≡ []) refl refl refl k own j) at h)
second-there (suc n) (item ∷ more) (shows i j) h = refl

-- what the first k items show: no more than is before an item, of it, and after it
count-shown : (k : ℕ) (before : List Item) (item : Item) (more : List Item)
    → length (shown (take k (before ++ item ∷ more)))
    ≤ length (shown before) + length (shown_item item.kind item.text) + length
    (shown (take (k - suc (length before)) more))
count-shown zero before item more = omega arith
count-shown (suc k) [] item more = let e : suc k - 1 ≡ k = omega arith in
    rw e (omega (arith, length-append (shown_item item.kind item.text) (shown (take k more))))
count-shown (suc k) (this_item ∷ before) item more =
    let e : suc k - suc (suc (length before)) ≡ k - suc (length before) = omega arith in
    let these_terminals : List Terminal = shown_item this_item.kind this_item.text in
    rw e (omega (
      arith,
      count-shown k before item more,
      length-append these_terminals (shown (take k (before ++ item ∷ more))),
      length-append these_terminals (shown before),
    ))

terminals-some : (tokens : List Token) → 0 < length (terminals tokens)
terminals-some [] = omega arith
terminals-some (this_token ∷ tokens) = omega arith

-- something is shown after a token that is not the end
more-shown : (offset : ℕ) (lexeme : Lexeme) (more : List Item) → CutFrom offset (item_of lexeme ∷ more)
    → is_end lexeme.kind ≡ false → 0 < length (shown more)
more-shown offset lexeme [] cut e = absurd (true≢false (sym (ap ends (ap (λ (i : Item). i.kind) cut)) ∙ e))
more-shown offset lexeme (next ∷ more) cut e = let m = ap length (cut-shown _ (next ∷ more) cut.2) in
    omega (arith, m, terminals-some (tokens_of (next ∷ more)))

answered : (max_items offset : ℕ) (before : List Item) (lexeme : Lexeme) (more : List Item)
    → CutFrom offset (before ++ item_of lexeme ∷ more)
    → ignored lexeme.kind ≡ None
    → AreAmong max_items (before ++ item_of lexeme ∷ more) (shown before ++ take 2 (shown (item_of lexeme ∷ more)))
    → Answered max_items before more lexeme
answered max_items offset before lexeme more cut now (v, e) = elim (either (is_end lexeme.kind)) [
  | inl i ↦ inl i
  | inr i ↦ (
      let one = one-shown lexeme.kind lexeme.text now in
      let own = length-append (shown_kind lexeme.kind lexeme.text) (shown more) in
      let next = more-shown _ lexeme more (cut-from offset before (item_of lexeme) more cut) i in
      let two = length-take 2 (shown (item_of lexeme ∷ more)) in
      let all = ap length e ∙ length-append (shown before ++ take 2 (shown (item_of lexeme ∷ more))) v in
      let few : 0 < length (shown (take (max_items - suc (length before)) more)) = omega (
        arith,
        one,
        own,
        next,
        two,
        all,
        count-shown max_items before (item_of lexeme) more,
        length-append (shown before) (take 2 (shown (item_of lexeme ∷ more))),
      ) in
      let l = looks (limited (max_items - suc (length before)) more) in
      inr (subst (λ (o : Option Lexeme). is_some o ≡ true) l.3
      (second-there (max_items - suc (length before)) more l.2 few)))
]

-- ---- the clauses

-- the token limit's report is another
pub offset-is : {sort : Sort} {items : List Item} {max_depth max_items : ℕ} {before : List Item} {item : Item}
    {more : List Item} {report : Report}
    → Reason sort items max_depth max_items before item more report
    → (report ≡ token_limit_report (limit_index item)) ⊎ (report.index ≡ item.index)
offset-is (fault said this_lexeme same now h) = inr (ap (λ (i : Item). i.index) same)
offset-is (too_deep this_lexeme same h) = inr (ap (λ (i : Item). i.index) same)
offset-is (bad_text h) = inr refl
offset-is too_many = inl refl

module _ {sort : Sort} {source : List ℕ} {items : List Item} {max_depth max_items : ℕ} {report : Report}
    (cut : Cut source items)
    (is_right : IsRight sort source items max_depth max_items report) where
  each : CutFrom 0 (is_right.before ++ is_right.item ∷ is_right.more)
  each = subst (CutFrom 0) is_right.split cut.each

  -- the offset of a report of a token, the end or bad text
  abbrev here : (n : ℕ) → is_right.item.index ≡ n → At items n
  here n h = record {
    before = is_right.before;
    item = is_right.item;
    more = is_right.more;
    split = is_right.split;
    index = h;
  }

  up : (n : ℕ) → shown is_right.before
      ++ take n (shown (is_right.item ∷ is_right.more)) ≡ map word (tokens_of is_right.before)
      ++ take n (terminals (tokens_of (is_right.item ∷ is_right.more)))
  up n = ap₂ (λ (a b : List Terminal). a ++ take n b) (before-shown 0 is_right.before is_right.item is_right.more each)
      (cut-shown _ (is_right.item ∷ is_right.more) (cut-from 0 is_right.before is_right.item is_right.more each))

  -- No late fault.
  pub not-late : ((n : ℕ) → report ≢ token_limit_report n) → NotLate sort source report.index
  not-late n = elim (offset-is is_right.reason) [
    | inl h ↦ absurd (n _ h)
    | inr h ↦ subst (Begins sort)
        (sym (ap (λ (n : ℕ). take n source) h ∙ text-before source is_right.before is_right.item is_right.more
        (subst (Cut source) is_right.split cut))) is_right.begins
  ]

  -- No early fault.
  pub not-early : report.found ≢ at_limit → NotEarly sort max_items items report.index
  not-early = on is_right.reason
    where
      on : {this_report : Report}
          → Reason sort items max_depth max_items is_right.before is_right.item is_right.more this_report
          → this_report.found ≢ at_limit
          → NotEarly sort max_items items this_report.index
      on (fault said this_lexeme same now h) n = (
        here this_lexeme.index (ap (λ (j : Item). j.index) (sym same)),
        λ some among starts. h (answered max_items 0 is_right.before this_lexeme is_right.more
            (subst (λ (j : Item). CutFrom 0 (is_right.before ++ j ∷ is_right.more)) (sym same) each) now
            (subst (λ (j : Item). AreAmong max_items (is_right.before ++ j ∷ is_right.more)
            (shown is_right.before ++ take 2 (shown (j ∷ is_right.more))))
            (sym same) (subst (λ (l : List Item). AreAmong max_items l
            (shown is_right.before ++ take 2 (shown (is_right.item ∷ is_right.more))))
            is_right.split among)))
            (subst (StartSentence sort) (up 2) starts),
      )
      on (too_deep this_lexeme same h) n = absurd (n refl)
      on (bad_text h) n = (here is_right.item.index refl, λ some. absurd (some h))
      on too_many n = absurd (n refl)

  -- No early limit.
  pub not-early-limit : report.found ≡ at_limit → ((n : ℕ) → report ≢ token_limit_report n)
      → NotEarlyLimit sort max_depth items report.index
  not-early-limit = on is_right.reason
    where
      on : {this_report : Report}
          → Reason sort items max_depth max_items is_right.before is_right.item is_right.more this_report
          → this_report.found ≡ at_limit
          → ((n : ℕ) → this_report ≢ token_limit_report n) → NotEarlyLimit sort max_depth items this_report.index
      on (fault said this_lexeme same now h) f n = absurd (true≢false (sym (ap is_limit f) ∙ found-other this_lexeme))
      on (too_deep this_lexeme same h) f n = (
        here this_lexeme.index (ap (λ (j : Item). j.index) (sym same)),
        λ starts. h (subst (StartSentenceWithin sort max_depth) (up 1) starts),
      )
      on (bad_text h) f n = absurd cc
      on too_many f n = absurd (n _ refl)
