-- A sample header as the code has it.
use Rattle.std.specs.Prelude.{ℕ, zero, suc, ◌+◌, ◌%◌, ◌<◌, List, [], ◌∷◌, ◌≡◌, drop}
use Rattle.xm.specs.Got.{Test, at_most, unlike, even, when, ◌at◌}
use Rattle.xm.specs.Sample.{head_bytes, length_of, loop_start, loop_length, finetune, type_of, relative_note, kind_of, wide_by, loops_by, adpcm}
use Rattle.heads.specs.declared.SampleHead.{SampleHead}

abbrev pub sample_head : (head : List ℕ) → SampleHead
sample_head head = record {
  length = length_of head;
  loop_start = loop_start head;
  loop_length = loop_length head;
  finetune = finetune head;
  form = type_of head;
  relative_note = relative_note head;
  kind = kind_of head;
}

-- "name 18 (22)": the fields end where the name begins.
abbrev pub fields_end : ℕ
fields_end = 18

-- The fields of a header, of which the bytes as far as their end are enough.
pub record HeadAt (head : List ℕ) (r : SampleHead) : Type 0 where
  pub value : r ≡ sample_head head
  pub length_small : r.length < 4294967296
  pub start_small : r.loop_start < 4294967296
  pub looped_small : r.loop_length < 4294967296

-- The tests of a header by its fields: "kind AD with the 16-bit bit set", "16-bit length odd", "a looping sample's start + loop length above its
-- length", and "a looping 16-bit sample whose loop start or loop length is odd".
abbrev pub kind_test : (form kind place : ℕ) → Test
kind_test form kind place = when (wide_by form) (unlike adpcm kind (12 at place))

abbrev pub wide_test : (form length place : ℕ) → Test
wide_test form length place = when (wide_by form) (even length (13 at place))

abbrev pub loop_test : (form length start looped place : ℕ) → Test
loop_test form length start looped place = when (loops_by form looped) (at_most length (start + looped) (13 at place))

abbrev pub whole_test : (form looped number place : ℕ) → Test
whole_test form looped number place = when (wide_by form) (when (loops_by form looped) (even number (13 at place)))

abbrev pub head_tests_of : (place : ℕ) → SampleHead → List Test
head_tests_of place head =
    kind_test head.form head.kind place
    ∷ unlike 3 (head.form % 4) (13 at place)
    ∷ wide_test head.form head.length place
    ∷ loop_test head.form head.length head.loop_start head.loop_length place
    ∷ whole_test head.form head.loop_length head.loop_start place
    ∷ whole_test head.form head.loop_length head.loop_length place
    ∷ []

-- The bytes of a run of headers.
unfoldable pub heads_from : (count size : ℕ) → List ℕ → List (List ℕ)
heads_from zero size s = []
heads_from (suc count) size s = head_bytes size s ∷ heads_from count size (drop size s)
