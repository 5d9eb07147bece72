-- What each step of writing a line leaves: the place behind it, and the line's bytes. Assumes nothing.
use Prim.Native.Nat.{ℕ, ◌+◌, ◌*◌, ◌/◌, ◌^◌, ◌≤◌, ◌<◌}
use mathlib.Core.List.{List, [], ◌∷◌, ◌++◌, append_assoc}
use mathlib.Core.Path.{◌≡◌, refl, sym, ap, ap₂, ◌∙◌}
use native.Mathlib.Numerals.{add-one}
use native.Mathlib.Omega.{arith}
use lib.ListN.{length, get_or, drop, set, length-append, drop_of_length-le}
use lib.Seq.{drop-cons, length-take-le}
use Rattle.xm.specs.Format.{All}
use Rattle.xm.specs.Answer.{in_front}
use Rattle.xm.specs.Lay.{lay}
use Rattle.xm.proofs.Lay.{lay_front, lay_none, lay-lay, lay_one, length-lay}
use Rattle.line.specs.Decimal.{last_digit, decimal}
use Rattle.line.specs.Line.{space, newline, numbered}
use Rattle.line.specs.Filled.{LineFills}
use Rattle.line.proofs.DecimalLaws.{decimal_short, decimal-long, decimal_longer, decimal_few}

-- A piece stands at a place, and the next place is behind it
abbrev pub PieceStands : (held : List ℕ) (at : ℕ) (piece : List ℕ) (next : ℕ) (out : List ℕ) → Type 0
PieceStands held at piece next out = (next ≡ at + length piece) × (out ≡ lay held at piece)

module _ (held : List ℕ) (at : ℕ) where
  -- One byte
  pub put_one : (byte : ℕ) → at < length held → PieceStands held at (byte ∷ []) (at + 1) (set held at byte)
  put_one byte h = (refl, lay_one held at byte h)

  -- One piece behind another
  pub put_more : (piece later : List ℕ) {next end : ℕ} {mid out : List ℕ} → at + length piece + length later ≤ length held
      → PieceStands held at piece next mid → PieceStands mid next later end out → PieceStands held at (piece ++ later) end out
  put_more piece later h s t = (
    omega (arith, s.0, t.0, length-append piece later),
    t.1 ∙ ap₂ (λ (l : List ℕ) (n : ℕ). lay l n later) s.1 s.0 ∙ lay-lay held at piece later h,
  )

  -- A number below 10, and another
  pub put_short : (n digit : ℕ) → digit ≡ last_digit n → n < 10 → at + length (decimal n) ≤ length held
      → PieceStands held at (decimal n) (at + 1) (set held at digit)
  put_short n digit same h room =
      let e : decimal n ≡ digit ∷ [] = decimal_short n h ∙ ap (λ (d : ℕ). d ∷ []) (sym same) in
      rw e (put_one digit (omega (arith, ap length e)))

  pub put_long : (n digit : ℕ) {last : ℕ} {mid : List ℕ} → digit ≡ last_digit n → 10 ≤ n → at + length (decimal n) ≤ length held
      → PieceStands held at (decimal (n / 10)) last mid → PieceStands held at (decimal n) (last + 1) (set mid last digit)
  put_long n digit {last} {mid} same h room s =
      let e : decimal n ≡ decimal (n / 10) ++ (digit ∷ []) = decimal-long n h ∙ ap (λ (d : ℕ). decimal (n / 10) ++ (d ∷ [])) (sym same) in
      let few = decimal_longer n h in
      let kept : length mid ≡ length held = ap length s.1 ∙ length-lay held at (decimal (n / 10)) (omega (arith, few)) in
      rw e (put_more (decimal (n / 10)) (digit ∷ []) (omega (arith, few)) s (refl, lay_one mid last digit (omega (arith, s.0, few, kept))))

-- Some of the numbers are written, up to `next`
pub record NumbersWritten (held : List ℕ) (at : ℕ) (numbers : List ℕ) (done next : ℕ) (line : List ℕ) : Type 0 where
  pub front : List ℕ
  pub stands : PieceStands held at front next line
  pub whole : numbered numbers ≡ front ++ numbered (drop done numbers)

module _ (held : List ℕ) (at : ℕ) (numbers : List ℕ) where
  pub written_none : NumbersWritten held at numbers 0 at held
  written_none = record { front = []; stands = (omega arith, sym (lay_none held at)); whole = refl }

  module _ {done next : ℕ} {line : List ℕ} (w : NumbersWritten held at numbers done next line) where
    -- what is left has room
    pub written_left : next + length (numbered (drop done numbers)) ≡ at + length (numbered numbers)
    written_left = omega (arith, w.stands.0, ap length w.whole, length-append w.front (numbered (drop done numbers)))

    module _ (room : at + length (numbered numbers) ≤ length held) where
      pub written_kept : length line ≡ length held
      written_kept = ap length w.stands.1 ∙ length-lay held at w.front (omega (arith, w.stands.0, written_left))

      next_number : done < length numbers → numbered (drop done numbers) ≡ (space ∷ decimal (get_or numbers done 0)) ++ numbered (drop (done + 1) numbers)
      next_number h = rw (add-one, drop-cons numbers done 0 h)

      -- and so has the next number
      pub written_next : done < length numbers → next + 1 + length (decimal (get_or numbers done 0)) ≤ length line
      written_next h =
          omega (
            arith,
            written_kept,
            written_left,
            ap length (next_number h),
            length-append (space ∷ decimal (get_or numbers done 0)) (numbered (drop (done + 1) numbers)),
          )

      pub written_more : done < length numbers → {end : ℕ} {out : List ℕ}
          → PieceStands (set line next space) (next + 1) (decimal (get_or numbers done 0)) end out
          → NumbersWritten held at numbers (done + 1) end out
      written_more h {end} {out} s =
          let n = decimal (get_or numbers done 0) in
          let fits = written_next h in
          let one : PieceStands line next (space ∷ n) end out =
          put_more line next (space ∷ []) n (omega (arith, fits)) (put_one line next space (omega (arith, fits))) s in
          record {
            front = w.front ++ (space ∷ n);
            stands = put_more held at w.front (space ∷ n) (omega (arith, fits, w.stands.0, written_kept)) w.stands one;
            whole = w.whole ∙ ap (λ (text : List ℕ). w.front ++ text) (next_number h)
                ∙ sym (append_assoc w.front (space ∷ n) (numbered (drop (done + 1) numbers)));
          }

      -- At last the line's end
      pub written_last : length numbers ≤ done → next < length line
      written_last h = omega (arith, written_kept, written_left, ap (λ (left : List ℕ). length (numbered left)) (drop_of_length-le numbers h))

      pub written_done : length numbers ≤ done → PieceStands held at (numbered numbers) (next + 1) (set line next newline)
      written_done h =
          let last : numbered (drop done numbers) ≡ newline ∷ [] = ap numbered (drop_of_length-le numbers h) in
          let one = put_one line next newline (written_last h) in
          rw (w.whole, last) (put_more held at w.front (newline ∷ []) (omega (arith, written_left, w.stands.0, ap length last)) w.stands one)

-- A number takes at most 20 digits, and the space
pub numbered_few : (ns : List ℕ) → All (λ (n : ℕ). n < 2 ^ 64) ns → length (numbered ns) ≤ 21 * length ns + 1
numbered_few [] h = omega arith
numbered_few (n ∷ ns) h = omega (arith, length-append (decimal n) (numbered ns), decimal_few n h.0, numbered_few ns h.1)

-- A text in front, and numbers behind it
pub put_whole : (held text numbers : List ℕ) {at end : ℕ} {mid out : List ℕ} → length (text ++ numbered numbers) ≤ length held
    → at ≡ length text → mid ≡ in_front text held
    → PieceStands mid at (numbered numbers) end out → LineFills (text ++ numbered numbers) held end out
put_whole held text numbers {end = end} {out = out} h n m s =
    let t = put_more held 0 text (numbered numbers) (omega (arith, length-append text (numbered numbers))) (omega arith, m ∙ sym (lay_front held text)) s in
    let kept : length out ≡ length held = ap length t.1 ∙ length-lay held 0 (text ++ numbered numbers) (omega arith) in
    let inside : end ≤ length out = omega (arith, t.0) in
    (omega (arith, t.0), (t.1 ∙ lay_front held (text ++ numbered numbers), (inside, sym (length-take-le end out inside))))
