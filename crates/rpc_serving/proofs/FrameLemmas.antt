-- What the head of some bytes says of each frame that begins them.
use Rattle.std.proofs.Common.{◌≡◌, ℕ, ◌+◌, ◌-◌, ◌<◌, ◌≤◌, ◌^◌, ◌≢◌, min, Option, Some, None, Result, Ok, Err, List}
use Rattle.std.proofs.Common.{◌++◌, length, map, take, drop, refl, sym, ap, ◌∙◌, subst, arith, append_assoc}
use Rattle.std.proofs.Common.{length-append, length-drop}
use Rattle.std.proofs.Math.Seq.{take-add}
use Rattle.std.proofs.lemmas.List.{take-append-drop, take_at, drop_at, length-take, length-map, take-append-le}
use Rattle.std.specs.List.{flat_map}
use Rattle.std.specs.Prelude.{slice_range, IfSome, IfErr}
use Rattle.httparse.proofs.GrammarLemmas.{section_unique, ReadsSection-append}
use Rattle.httparse.specs.Grammar.{Field, LineEnd, crlf, lf, print_end, print_field, print_section, ReadsSection}
use Rattle.httparse.specs.Grammar.{HasNoSection}
use Rattle.httparse.specs.Spans.{name_and_value, header_bytes, IsSectionAt, IsSectionOf, IsSectionWithin}
use Rattle.httparse.specs.Spans.{SectionOverflows}
use Rattle.httparse.specs.declared.spans.HeaderSpan.{HeaderSpan}
use Rattle.rpc_serving.specs.Frames.{length_in, BeginsWithFrame, IsFrame, HasNoFrame, NeverHasFrame, Agrees, IsHeadAt}
use Rattle.rpc_serving.specs.Frames.{IsBodyAt}
use Rattle.rpc_serving.specs.declared.frames.FrameError.{FrameError}
use Rattle.rpc_serving.specs.declared.frames.FrameError.TheVariants.{Memory}

-- the section of a frame, in bytes that begin with it
section : (bytes frame body more : List ℕ) (f : IsFrame frame body) → bytes ≡ frame ++ more
    → ReadsSection bytes f.fields f.last (body ++ more)
section bytes frame body more f eq =
    (f.head.0, eq ∙ ap (λ (v : List ℕ). v ++ more) f.head.1 ∙ append_assoc (print_section f.fields f.last) body more)

same-head : (bytes : List ℕ) (fields : List Field) (last : LineEnd) (rest frame body more : List ℕ)
    → ReadsSection bytes fields last rest → IsFrame frame body
    → bytes ≡ frame ++ more
    → (length_in (map name_and_value fields) ≡ Some (length body)) × (rest ≡ body ++ more)
same-head bytes fields last rest frame body more reads f eq =
    let u = section_unique bytes fields f.fields last f.last rest (body ++ more) reads
    (section bytes frame body more f eq) in
    (ap (λ (fs : List Field). length_in (map name_and_value fs)) u.0 ∙ f.says, u.2)

from-front : (bytes : List ℕ) (m : ℕ) (fields : List Field) (last : LineEnd) (rest : List ℕ)
    → ReadsSection (take m bytes) fields last rest
    → ReadsSection bytes fields last (rest ++ drop m bytes)
from-front bytes m fields last rest reads =
    subst (λ (b : List ℕ). ReadsSection b fields last (rest ++ drop m bytes)) (take-append-drop m bytes)
    (ReadsSection-append (take m bytes) fields last rest (drop m bytes) reads)

none-stated : (stated : Option ℕ) (n : ℕ) → Agrees stated None → stated ≡ Some n → 2 ^ 64 ≤ n
none-stated stated n h e = subst (λ (o : Option ℕ). IfSome o (λ k. 2 ^ 64 ≤ k)) e h

same-some : (a b : ℕ) → Some a ≡ Some b → a ≡ b
same-some a b e = cc

-- the head that was read of a front of the bytes
section-at : (bytes : List ℕ) (m : ℕ) (headers : List HeaderSpan) (start count : ℕ)
    (fields : List Field) (last : LineEnd)
    → IsSectionAt (take m bytes) 0 headers start count fields last
    → (start ≡ length (print_section fields last)) × ReadsSection bytes fields last (drop start bytes)
section-at bytes m headers start count fields last s =
    let rest : List ℕ = drop start (take m bytes) ++ drop m bytes in
    let reads : ReadsSection bytes fields last rest =
    from-front bytes m fields last (drop start (take m bytes)) s.reads in
    let len : start ≡ length (print_section fields last) = omega (arith, s.len_is) in
    let behind : drop start bytes ≡ rest =
    ap (λ (b : List ℕ). drop start b) reads.1 ∙ drop_at (print_section fields last) rest start (sym len) in
    (len, subst (ReadsSection bytes fields last) (sym behind) reads)

pub head-at : (bytes : List ℕ) (m : ℕ) (headers : List HeaderSpan) (start count k n : ℕ) → k ≡ count
    → m ≤ 4096 → length headers ≡ 16
    → IsSectionWithin (take m bytes) headers start count
    → IsSectionOf (take m bytes) 0 headers (start, count)
    → length_in (map (header_bytes (take m bytes)) (take k headers)) ≡ Some n → IsHeadAt bytes start n
head-at bytes m headers start count k n e most room within s given =
    let stated : length_in (map (header_bytes (take m bytes)) (take count headers))
    ≡ Some n = subst (λ (j : ℕ). length_in (map (header_bytes (take m bytes)) (take j headers)) ≡ Some n) e given in
    let at = section-at bytes m headers start count s.0 s.1 s.2 in
    record {
      fields = s.0;
      last = s.1;
      reads = at.1;
      ends = at.0;
      says = ap length_in (sym s.2.fields_are) ∙ stated;
      few = omega (
        arith,
        room,
        sym (length-map (take count headers) (header_bytes (take m bytes))) ∙ ap length s.2.fields_are
            ∙ length-map s.0 name_and_value,
        length-take count headers,
      );
      short = omega (arith, within.len_fits, length-take m bytes);
    }

-- where the length isn't given
pub never-stated : (bytes : List ℕ) (m : ℕ) (headers : List HeaderSpan) (start count k : ℕ) → k ≡ count
    → IsSectionOf (take m bytes) 0 headers (start, count)
    → Agrees (length_in (map (header_bytes (take m bytes)) (take k headers))) None → NeverHasFrame bytes
never-stated bytes m headers start count k e s given more body rest b =
    let stated : Agrees (length_in (map (header_bytes (take m bytes)) (take count headers))) None = subst
    (λ (j : ℕ). Agrees (length_in (map (header_bytes (take m bytes)) (take j headers))) None) e given in
    let at = section-at bytes m headers start count s.0 s.1 s.2 in
    let reads = ReadsSection-append bytes s.0 s.1 (drop start bytes) more at.1 in
    let same = same-head (bytes ++ more) s.0 s.1 (drop start bytes ++ more) b.0 body rest reads b.1 b.2 in
    let stated' : Agrees (length_in (map name_and_value s.0)) None =
    subst (λ (fs : List (List ℕ × List ℕ)). Agrees (length_in fs) None) s.2.fields_are stated in
    absurd (omega (arith, none-stated (length_in (map name_and_value s.0)) (length body) stated' same.0, b.1.small))

-- where it is too large
pub never-large : (bytes : List ℕ) (start n : ℕ) → IsHeadAt bytes start n → 2 ^ 30 < n → NeverHasFrame bytes
never-large bytes start n h large more body rest b =
    let reads = ReadsSection-append bytes h.fields h.last (drop start bytes) more h.reads in
    let same = same-head (bytes ++ more) h.fields h.last (drop start bytes ++ more) b.0 body rest reads b.1 b.2 in
    absurd (omega (arith, same-some n (length body) (sym h.says ∙ same.0), b.1.small))

pub start-fits : (bytes : List ℕ) (start n : ℕ) → IsHeadAt bytes start n → start ≤ length bytes
start-fits bytes start n h =
    omega (arith, ap length h.reads.1, length-append (print_section h.fields h.last) (drop start bytes), h.ends)

-- where the body isn't complete
pub none-yet : (bytes : List ℕ) (start n : ℕ) → IsHeadAt bytes start n → length bytes - start < n → HasNoFrame bytes
none-yet bytes start n h short body rest b =
    let same = same-head bytes h.fields h.last (drop start bytes) b.0 body rest h.reads b.1 b.2 in
    absurd (omega (
      arith,
      same-some n (length body) (sym h.says ∙ same.0),
      ap length same.1,
      length-append body rest,
      length-drop start bytes,
    ))

-- where it is complete
pub body-at : (bytes : List ℕ) (start n : ℕ) → IsHeadAt bytes start n → n ≤ 2 ^ 30 → n ≤ length bytes - start
    → IsBodyAt bytes start (start + n)
body-at bytes start n h small within =
    let print : List ℕ = print_section h.fields h.last in
    let fits : start ≤ length bytes = start-fits bytes start n h in
    let front : take start bytes ≡ print =
    ap (λ (b : List ℕ). take start b) h.reads.1 ∙ take_at print (drop start bytes) start (sym h.ends) in
    let to : (start + n) - start ≡ n = omega arith in
    let body : slice_range bytes start (start + n) ≡ take n (drop start bytes) =
    ap (λ (k : ℕ). take k (drop start bytes)) to in
    let len : length (slice_range bytes start (start + n)) ≡ n = ap length body
    ∙ (let l : length (take n (drop start bytes))
    ≡ n = omega (arith, length-take n (drop start bytes), length-drop start bytes) in l) in
    record {
      ordered = omega arith;
      within = omega arith;
      frame = record {
        fields = h.fields;
        last = h.last;
        head = (
          h.reads.0,
          take-add start n bytes ∙ ap (λ (b : List ℕ). b ++ take n (drop start bytes)) front
              ∙ ap (λ (b : List ℕ). print ++ b) (sym body),
        );
        says = h.says ∙ ap Some (sym len);
        few = h.few;
        short = omega (arith, h.ends, h.short);
        small = omega arith;
      };
    }

-- a frame's section is within the front
in-front : (bytes : List ℕ) (m : ℕ) (frame body rest : List ℕ) (f : IsFrame frame body) → bytes ≡ frame ++ rest
    → length (print_section f.fields f.last) ≤ m
    → ReadsSection (take m bytes) f.fields f.last (take (m - length (print_section f.fields f.last)) (body ++ rest))
in-front bytes m frame body rest f eq le =
    let print = print_section f.fields f.last in
    let own = section bytes frame body rest f eq in
    let to : length print + (m - length print) ≡ m = omega arith in (
      own.0,
      ap (λ (k : ℕ). take k bytes) (sym to) ∙ take-add (length print) (m - length print) bytes
          ∙ ap (λ (b : List ℕ). b ++ take (m - length print) (drop (length print) bytes))
          (ap (λ (b : List ℕ). take (length print) b) own.1 ∙ take_at print (body ++ rest) (length print) refl)
          ∙ ap (λ (b : List ℕ). print ++ take (m - length print) b) (ap (λ (b : List ℕ). drop (length print) b) own.1
          ∙ drop_at print (body ++ rest) (length print) refl),
    )

print-fits : (bytes frame body rest : List ℕ) (f : IsFrame frame body) → bytes ≡ frame ++ rest
    → length (print_section f.fields f.last) ≤ length bytes
print-fits bytes frame body rest f eq = omega (
  arith,
  ap length (section bytes frame body rest f eq).1,
  length-append (print_section f.fields f.last) (body ++ rest),
)

-- where the head isn't complete
pub no-head-yet : (bytes : List ℕ) (m : ℕ) → m ≡ min (length bytes) 4096
    → HasNoSection (take m bytes) → HasNoFrame bytes
no-head-yet bytes m is none body rest b =
    none b.1.fields b.1.last (take (m - length (print_section b.1.fields b.1.last)) (body ++ rest))
    (in-front bytes m b.0 body rest b.1 b.2 (omega (arith, b.1.short, print-fits bytes b.0 body rest b.1 b.2)))

pub head-too-long : (bytes : List ℕ) (m : ℕ) → m ≡ min (length bytes) 4096 → 4096 ≤ length bytes
    → HasNoSection (take m bytes) → NeverHasFrame bytes
head-too-long bytes m is long none more =
    let all : take m (bytes ++ more) ≡ take m bytes = take-append-le m bytes more (omega arith) in
    let m' : m ≡ min (length (bytes ++ more)) 4096 = omega (arith, length-append bytes more) in
    no-head-yet (bytes ++ more) m m' (subst HasNoSection (sym all) none)

-- where no head has so few fields
pub no-few : (bytes : List ℕ) (m room : ℕ) → room ≡ 16 → SectionOverflows room (take m bytes) → NeverHasFrame bytes
no-few bytes m room e over more body rest b =
    let own = section (bytes ++ more) b.0 body rest b.1 b.2 in
    let split : take m bytes ++ (drop m bytes ++ more) ≡ bytes ++ more =
    sym (append_assoc (take m bytes) (drop m bytes) more)
    ∙ ap (λ (v : List ℕ). v ++ more) (take-append-drop m bytes) in
    absurd (omega (
      arith,
      b.1.few,
      over (drop m bytes ++ more) b.1.fields b.1.last (body ++ rest)
          (subst (λ (v : List ℕ). ReadsSection v b.1.fields b.1.last (body ++ rest)) (sym split) own),
    ))

-- the error that is passed on
pub if-err : {A : Type 0} (r : Result A FrameError) (bytes : List ℕ) → NeverHasFrame bytes
    → IfErr r (λ error. error ≢ Memory → NeverHasFrame bytes)
if-err (Ok x) bytes h = tt
if-err (Err e) bytes h = λ other. h

end-length : (last : LineEnd) → 0 < length (print_end last)
end-length crlf = omega arith
end-length lf = omega arith

-- what follows a frame is shorter than what begins with it
pub shorter : (now body more : List ℕ) → BeginsWithFrame now body more → length more < length now
shorter now body more b =
    omega (
      arith,
      ap length b.2,
      length-append b.0 more,
      ap length b.1.head.1,
      length-append (print_section b.1.fields b.1.last) body,
      length-append (flat_map print_field b.1.fields) (print_end b.1.last),
      end-length b.1.last,
    )
