-- What the first byte of an item says about it.
use Rattle.std.proofs.Common.{◌≡◌, ℕ, ◌+◌, ◌||◌, ◌==◌, if◌then◌else◌, List, [], ◌∷◌, get_or, Option, Some, None}
use Rattle.std.proofs.Common.{option_map, is_some, true, false, cond, eqb, refl, sym, ap, ◌∙◌, inl, inr}
use Rattle.std.proofs.lemmas.Bool.{cases_Bool, or_parts, both_ways}
use Rattle.std.proofs.lemmas.Bool.Decides.{Decides-eqb}
use Rattle.std.proofs.lemmas.Slice.Eq.{starts_is}
use Rattle.std.specs.Char.{is_ascii_alphanumeric}
use Rattle.std.specs.Int.{is_in_range}
use Rattle.std.specs.List.{prefix_len}
use Rattle.lexical_grammar.specs.Characters.{is_name_start, is_name_continue, is_comment_character, is_digit}
use Rattle.lexical_grammar.specs.Characters.{is_white_space, is_line_terminator}
use Rattle.lexical_grammar.specs.Reads.{blank_len, blanks_len, punctuator, number_at, string_at, token_at}
use Rattle.lexical_grammar.specs.Strings.{begins}
use Rattle.lexical_grammar.specs.declared.TokenKind.{TokenKind}
use Rattle.lexical_grammar.specs.declared.TokenKind.TheVariants as token
use Rattle.apollo_lexer.specs.Starts.{start_of, other_start}
use Rattle.apollo_lexer.specs.declared.bytes.Start.{Start}
use Rattle.apollo_lexer.specs.declared.bytes.Start.TheVariants.{Name, Number, Quote, NumberSign, Dot, Blank, Punctuator}
use Rattle.apollo_lexer.specs.declared.bytes.Start.TheVariants.{Other}

-- the token at the front
abbrev pub token_from : Start → ℕ → List ℕ → Option (TokenKind × ℕ)
token_from Name b bs = Some (token.Name, prefix_len is_name_continue (b ∷ bs))
token_from Number b bs = number_at (b ∷ bs)
token_from Quote b bs = string_at (b ∷ bs)
token_from NumberSign b bs = Some (token.Comment, 1 + prefix_len is_comment_character bs)
token_from Dot b bs = if begins (46 ∷ 46 ∷ []) bs then Some (token.Spread, 3) else None
token_from Blank b bs = Some (token.Whitespace, 1 + blanks_len 0 bs)
token_from (Punctuator kind) b bs = Some (kind, 1)
token_from Other b bs = if blank_len (b ∷ bs) == 0 then None else Some (token.Whitespace, blanks_len 0 (b ∷ bs))

-- no punctuator is a blank character, and none begins a byte order mark
punctuator-at : (b : ℕ) (bs : List ℕ) → (is_white_space b || is_line_terminator b) ≡ false
    → (p : Option TokenKind) → punctuator b ≡ p
    → token_from (other_start p) b bs
    ≡ (if blank_len (b ∷ bs)
    == 0 then option_map (λ kind. (kind, 1)) p else Some (token.Whitespace, blanks_len 0 (b ∷ bs)))
punctuator-at b bs blank None is = refl
punctuator-at b bs blank (Some kind) is =
    elim (cases_Bool (begins (239 ∷ 187 ∷ 191 ∷ []) (b ∷ bs))) [
      | inl mark ↦
          let first : b ≡ 239 = ap (λ text. get_or text 0 0)
          ((starts_is {E = eqb} Decides-eqb (b ∷ bs) (239 ∷ 187 ∷ 191 ∷ []) _ refl).0 mark) in
          let h : false ≡ true = ap is_some (sym (ap punctuator first) ∙ is) in
          absurd cc
      | inr none ↦ rw (blank, none) refl
    ]

-- a character that begins a name may go on in it
name-goes-on : (b : ℕ) → is_name_start b ≡ true → is_name_continue b ≡ true
name-goes-on b h = elim (cases_Bool (is_name_continue b)) [
  | inl e ↦ e
  | inr other ↦
      let all = or_parts (is_ascii_alphanumeric b) (b == 95) other in
      let letters = or_parts (is_in_range 48 57 b || is_in_range 65 90 b) (is_in_range 97 122 b) all.0 in
      let upper = (or_parts (is_in_range 48 57 b) (is_in_range 65 90 b) letters.0).1 in
      let lower = letters.1 in
      let line = all.1 in
      let none : is_name_start b ≡ false = rw (upper, lower, line) refl in
      absurd (both_ways (is_name_start b) none h)
]

by-start : (b : ℕ) (bs : List ℕ) → token_from (start_of b) b bs ≡ token_at (b ∷ bs)
by-start b bs = elim (cases_Bool (is_name_start b)) [
  | inl e ↦
      let start : start_of b ≡ Name = rw e refl in
      let here : token_at (b ∷ bs) ≡ Some (token.Name, 1 + prefix_len is_name_continue bs) = rw e refl in
      let run : prefix_len is_name_continue (b ∷ bs) ≡ 1 + prefix_len is_name_continue bs =
      ap (λ t. cond t (1 + prefix_len is_name_continue bs) 0)
      (name-goes-on b e) in
      ap (λ s. token_from s b bs) start ∙ sym (here ∙ ap (λ n. Some (token.Name, n)) (sym run))
  | inr name ↦ elim (cases_Bool (is_digit b || b == 45)) [
    | inl e ↦ rw (name, e) refl
    | inr number ↦ elim (cases_Bool (b == 34)) [
      | inl e ↦ rw (name, number, e) refl
      | inr quote ↦ elim (cases_Bool (b == 35)) [
        | inl e ↦ rw (name, number, quote, e) refl
        | inr sign ↦ elim (cases_Bool (b == 46)) [
          | inl e ↦ rw (name, number, quote, sign, e) refl
          | inr dot ↦ elim (cases_Bool (is_white_space b || is_line_terminator b)) [
            | inl e ↦
                let start : start_of b ≡ Blank = rw (name, number, quote, sign, dot, e) refl in
                let some : (blank_len (b ∷ bs) == 0) ≡ false = rw e refl in
                let step : blanks_len 0 (b ∷ bs) ≡ 1 + blanks_len 0 bs = rw e refl in
                let here : token_at (b ∷ bs) ≡ Some (token.Whitespace, blanks_len 0 (b ∷ bs)) =
                rw (name, number, quote, sign, dot, some) refl in
                ap (λ s. token_from s b bs) start ∙ sym (here ∙ ap (λ n. Some (token.Whitespace, n)) step)
            | inr blank ↦
                let start : start_of b ≡ other_start (punctuator b) = rw (name, number, quote, sign, dot, blank) refl in
                let here : token_at (b ∷ bs)
                ≡ (if blank_len (b ∷ bs) == 0 then option_map (λ kind. (kind, 1)) (punctuator b) else Some (
                  token.Whitespace,
                  blanks_len 0 (b ∷ bs),
                )) = rw (name, number, quote, sign, dot) refl in
                ap (λ s. token_from s b bs) start ∙ punctuator-at b bs blank (punctuator b) refl ∙ sym here
          ]
        ]
      ]
    ]
  ]
]

pub token-by-start : (s : Start) (b : ℕ) (bs bytes : List ℕ) → bytes ≡ b ∷ bs → s ≡ start_of b
    → token_from s b bs ≡ token_at bytes
token-by-start s b bs bytes is start = ap (λ t. token_from t b bs) start ∙ by-start b bs ∙ ap token_at (sym is)
