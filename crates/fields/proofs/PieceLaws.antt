-- Laws of the pieces that an instrument is written in: its fields, and its sample headers. Assumes nothing.
use Prim.Native.Nat.{ℕ, zero, suc, ◌+◌, ◌-◌, ◌*◌, ◌≤◌, ◌<◌}
use mathlib.Core.List.{List, [], ◌∷◌, ◌++◌}
use mathlib.Core.Path.{◌≡◌, refl, sym, ap, ap₂, ◌∙◌}
use native.Mathlib.Nat.{add-mul, one-mul, suc-mul, zero-mul}
use native.Mathlib.Omega.{arith}
use lib.ListN.{length, take, drop, replicate, length-append}
use lib.Seq.{take_all, drop-drop, length-take-le}
use borrow.Rule.Slice.PartMut.{put_mid}
use Rattle.xm.specs.Number.{byte, long}
use Rattle.xm.specs.ModuleKind.{padded}
use Rattle.xm.specs.Format.{joined}
use Rattle.xm.specs.Answer.{in_front}
use Rattle.xm.specs.Sample.{least_head, head_bytes}
use Rattle.xm.specs.Instrument.{least_stripped, voice_from, voice_size}
use Rattle.xm.proofs.Lay.{Laid, laid_none, laid_part, laid_done}
use Rattle.xm.proofs.Cut.{padded-length, take-padded}
use Rattle.heads.specs.Sample.{heads_from}
use Rattle.forms.proofs.FieldLaws.{long_low}
use Rattle.fields.specs.Fields.{voice_in, fields_in, heads_cut}
use Rattle.fields.proofs.CutLaws.{padded_front, padded-padded, padded_more, padded-behind}

-- H below 256 is its first byte, and zeros follow
few_zeros : (n : ℕ) (s : List ℕ) → n < 4 → padded n (0 ∷ 0 ∷ 0 ∷ s) ≡ replicate n 0
unfolding padded
few_zeros zero s h = refl
few_zeros (suc zero) s h = refl
few_zeros (suc (suc zero)) s h = refl
few_zeros (suc (suc (suc zero))) s h = refl
few_zeros (suc (suc (suc (suc n)))) s h = absurd (omega arith)

pub voice_short : (count head_size : ℕ) (s : List ℕ) → 1 ≤ count → count < 4 → head_size < 256
    → padded count (voice_in head_size s) ≡ byte head_size ++ replicate (count - 1) 0
voice_short count head_size s some few low =
    let rest = padded voice_size (drop voice_from s) in
    ap (λ (l : List ℕ). padded count (l ++ rest)) (long_low head_size low)
    ∙ padded-behind count (head_size ∷ []) (0 ∷ 0 ∷ 0 ∷ rest) (omega arith)
    ∙ ap (λ (l : List ℕ). head_size ∷ l) (few_zeros (count - 1) rest (omega arith))

pub voice_whole : (head_size : ℕ) (s : List ℕ)
    → padded 234 (voice_in head_size s) ≡ long head_size ++ (padded voice_size (drop voice_from s) ++ replicate 22 0)
voice_whole head_size s =
    padded-behind 234 (long head_size) (padded voice_size (drop voice_from s)) (omega arith)
    ∙ ap (λ (l : List ℕ). long head_size ++ l) (padded_more 230 voice_size (drop voice_from s) (omega arith))

-- The fields up to I, which ends among name, type and k, or behind them
module _ (size : ℕ) (d v : List ℕ) where
  pub fields_short : size ≤ 29 → padded (size - least_stripped) (padded 25 d ++ v) ≡ padded (size - 4) d
  fields_short h = padded_front (size - 4) (padded 25 d) v (omega (arith, padded-length 25 d)) ∙ padded-padded (size - 4) 25 d (omega arith)

  pub fields_behind : 29 < size → padded (size - least_stripped) (padded 25 d ++ v) ≡ padded 25 d ++ padded (size - 29) v
  fields_behind h =
      let n : size - 4 - length (padded 25 d) ≡ size - 29 = omega (arith, padded-length 25 d) in
      padded-behind (size - 4) (padded 25 d) v (omega (arith, padded-length 25 d)) ∙ ap (λ (k : ℕ). padded 25 d ++ padded k v) n

pub fields_size : (size head_size : ℕ) (s : List ℕ) → least_stripped ≤ size → length (fields_in size head_size s) ≡ size
fields_size size head_size s h =
    length-append (long size) (padded (size - 4) (padded 25 (drop 4 s) ++ voice_in head_size s))
    ∙ omega (arith, padded-length (size - 4) (padded 25 (drop 4 s) ++ voice_in head_size s))

-- A run of headers, of each as many bytes as are kept: the first of them, and how many they are
module _ (size kept : ℕ) (few : kept ≤ least_head) where
  heads_first : (left : ℕ) (s : List ℕ) → 0 < left → heads_cut left size kept s ≡ padded kept (take size s) ++ heads_cut (left - 1) size kept (drop size s)
  unfolding heads_from
  heads_first zero s h = absurd (omega arith)
  heads_first (suc left) s h =
      let n : left ≡ suc left - 1 = omega arith in
      ap₂ (λ (l : List ℕ) (k : ℕ). l ++ heads_cut k size kept (drop size s)) (take-padded kept least_head (take size s) few) n

  pub heads_size : (count : ℕ) (s : List ℕ) → length (heads_cut count size kept s) ≡ count * kept
  unfolding heads_from
  heads_size zero s = sym (zero-mul kept)
  heads_size (suc count) s =
      length-append (take kept (head_bytes size s)) (heads_cut count size kept (drop size s))
      ∙ omega (
        arith,
        suc-mul count kept,
        length-take-le kept (head_bytes size s) (omega (arith, padded-length least_head (take size s))),
        heads_size count (drop size s),
      )

-- whole ones are those of 40 bytes
pub heads_whole : (count size : ℕ) (s : List ℕ) → joined (λ (head : List ℕ). head) (heads_from count size s) ≡ heads_cut count size least_head s
unfolding heads_from
heads_whole zero size s = refl
heads_whole (suc count) size s =
    ap₂ (λ (a b : List ℕ). a ++ b) (sym (take_all least_head (head_bytes size s) (omega (arith, padded-length least_head (take size s)))))
    (heads_whole count size (drop size s))

-- The loop over them: those that are left are still to be laid
pub record HeadsToWrite (file lent goal : List ℕ) (size kept left head : ℕ) (out : List ℕ) (to : ℕ) : Type 0 where
  pub inside : head + left * size ≤ length file
  pub laid : Laid lent goal out to (heads_cut left size kept (drop head file))

module _ (file lent : List ℕ) (size kept : ℕ) (few : kept ≤ least_head) where
  pub heads_none : (count head : ℕ) {left : ℕ} → left ≡ count → head + count * size ≤ length file → count * kept ≤ length lent
      → HeadsToWrite file lent (heads_cut count size kept (drop head file)) size kept left head lent 0
  heads_none count head all h room = rw all (record { inside = h; laid = laid_none lent _ (omega (arith, heads_size size kept few count (drop head file))) })

  module _ {goal out : List ℕ} {left head to : ℕ} (w : HeadsToWrite file lent goal size kept left head out to) where
    pub heads_done : left ≡ 0 → out ≡ in_front goal lent
    unfolding heads_from
    heads_done z = laid_done w.laid (ap (λ (n : ℕ). heads_cut n size kept (drop head file)) z)

    module _ (some : 0 < left) where
      one_less : left * size ≡ size + (left - 1) * size
      one_less =
          let n : left ≡ 1 + (left - 1) = omega arith in
          ap (λ (m : ℕ). m * size) n ∙ add-mul 1 (left - 1) size ∙ ap (λ (m : ℕ). m + (left - 1) * size) (one-mul size)

      pub head_inside : head + size ≤ length file
      head_inside = omega (arith, w.inside, one_less)

      abbrev first : List ℕ
      first = padded kept (take size (drop head file))

      rest : heads_cut left size kept (drop head file) ≡ first ++ heads_cut (left - 1) size kept (drop (head + size) file)
      rest = heads_first size kept few left (drop head file) some ∙ ap (λ (s : List ℕ). first ++ heads_cut (left - 1) size kept s) (drop-drop size head file)

      pub head_room : to + kept ≤ length out
      head_room = omega (arith, w.laid.room, ap length rest ∙ length-append first _, padded-length kept (take size (drop head file)))

      pub heads_more : {next less : ℕ} {part : List ℕ} → next ≡ head + size → less ≡ left - 1 → part ≡ in_front first (take (length out - to) (drop to out))
          → HeadsToWrite file lent goal size kept less next (put_mid to (length out - to) out part) (to + kept)
      heads_more n fewer e = rw (n, fewer) (record {
        inside = omega (arith, w.inside, one_less);
        laid = laid_part w.laid first _ rest refl (omega (arith, padded-length kept (take size (drop head file)))) e;
      })
