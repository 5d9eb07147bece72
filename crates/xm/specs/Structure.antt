-- The small reader: "it hands over one structure's kind and place at a call (pattern, instrument or sample header, in file order), then
-- says that the end is reached. On a refused file each call gives the check's refusal."
use Rattle.std.specs.Prelude.{ℕ, zero, suc, ◌+◌, ◌-◌, Bool, true, false, cond, List, [], ◌∷◌, map, leb, ltb, length, drop, get_or}
use Rattle.xm.specs.Got.{Got, got, refused}
use Rattle.xm.specs.Format.{Kind, Region, header, pattern_header, pattern_data, instrument, sample_header, sample_data}
use Rattle.xm.specs.Answer.{Answer, gives, refuses, answered}
use Rattle.xm.specs.Header.{patterns_at, instruments_at, header_end, kind_at}
use Rattle.xm.specs.PatternInFile.{least_pattern, pattern_head_size_at, data_size_at}
use Rattle.xm.specs.Sample.{size_of_first}
use Rattle.xm.specs.Instrument.{InstrumentFound, read_instrument}
use Rattle.xm.specs.Module.{Found, regions_of, file_most, read_file}

abbrev pub is_structure : Kind → Bool
is_structure header = false
is_structure pattern_header = true
is_structure pattern_data = false
is_structure instrument = true
is_structure sample_header = true
is_structure sample_data = false

-- A kind as a number.
abbrev pub kind_number : Kind → ℕ
kind_number header = 0
kind_number pattern_header = 1
kind_number pattern_data = 2
kind_number instrument = 3
kind_number sample_header = 4
kind_number sample_data = 5

abbrev pub structures_of : List Region → List Region
structures_of [] = []
structures_of (r ∷ rs) = cond (is_structure r.kind) (r ∷ structures_of rs) (structures_of rs)

abbrev pub structures : Found → List Region
structures found = structures_of (regions_of found)

-- What a call hands over: a structure's kind and place, or that the end is reached.
pub data Standing : Type 0 where
  stands : Kind → (place : ℕ) → Standing
  ended : Standing

abbrev pub handed : Region → Standing
handed r = stands r.kind r.place

-- What the call so numbered gives, from 0 on: the structure of that number, and behind the last one the end.
unfoldable pub reading : (file : List ℕ) (number : ℕ) → Answer Standing
reading file number = answered (λ found end. get_or (map handed (structures found)) number ended) (read_file file)

-- How far a reader has read: so many patterns and then instruments are left, from a place on; and before them, of the instrument that was
-- handed over last, so many sample headers, of a size, from a place on.
pub record Ahead : Type 0 where
  pub patterns : ℕ
  pub instruments : ℕ
  pub place : ℕ
  pub heads : ℕ
  pub head : ℕ
  pub head_size : ℕ

pub record Handed : Type 0 where
  pub standing : Standing
  pub ahead : Ahead

abbrev pub ends_at : Ahead → Handed
ends_at a = record { standing = ended; ahead = a }

abbrev pub hand_head : Ahead → Handed
hand_head a = record {
  standing = stands sample_header a.head;
  ahead = record {
    patterns = a.patterns;
    instruments = a.instruments;
    place = a.place;
    heads = a.heads - 1;
    head = a.head + a.head_size;
    head_size = a.head_size;
  };
}

-- A pattern, by the bytes from its place on: its cells are not read again.
abbrev pub hand_pattern : List ℕ → Ahead → Handed
hand_pattern s a = record {
  standing = stands pattern_header a.place;
  ahead = record {
    patterns = a.patterns - 1;
    instruments = a.instruments;
    place = a.place + pattern_head_size_at s + data_size_at s;
    heads = 0;
    head = 0;
    head_size = 0;
  };
}

abbrev pub hand_instrument : Got InstrumentFound → Ahead → Handed
hand_instrument (got i used) a = record {
  standing = stands instrument a.place;
  ahead = record {
    patterns = a.patterns;
    instruments = a.instruments - 1;
    place = a.place + used;
    heads = length i.samples.0;
    head = a.place + i.size;
    head_size = size_of_first i.samples.0;
  };
}
hand_instrument (refused r) a = ends_at a

-- One call, of any such numbers: where they are of no accepted file, what is not there is the end. Which kind of module it is, normal or
-- stripped, the file says itself. With H = 0 several sample headers stand at one place: they are counted.
unfoldable pub hand_over : (file : List ℕ) → Ahead → Handed
hand_over file a =
    let s = drop a.place file in
    cond (leb (length file) file_most)
    (cond (ltb 0 a.heads) (cond (leb (a.head + a.head_size) (length file)) (hand_head a) (ends_at a))
    (cond (ltb 0 a.patterns) (cond (leb (a.place + least_pattern) (length file)) (hand_pattern s a) (ends_at a))
    (cond (ltb 0 a.instruments) (cond (leb a.place (length file)) (hand_instrument (read_instrument (kind_at file) a.place s) a) (ends_at a))
    (ends_at a))))
    (ends_at a)

-- A reader is made by checking the file, once.
abbrev pub ahead_at_first : (file : List ℕ) → Ahead
ahead_at_first file = record { patterns = patterns_at file; instruments = instruments_at file; place = header_end file; heads = 0; head = 0; head_size = 0 }

unfoldable pub started : (file : List ℕ) → Answer Ahead
started file = answered (λ found end. ahead_at_first file) (read_file file)

-- What a call gives, and how far the reader has read then. "On a refused file each call gives the check's refusal."
abbrev pub called : (file : List ℕ) → Answer Ahead → Answer Standing
called file (gives a) = gives (hand_over file a).standing
called file (refuses r) = refuses r

abbrev pub read_on : (file : List ℕ) → Answer Ahead → Answer Ahead
read_on file (gives a) = gives (hand_over file a).ahead
read_on file (refuses r) = refuses r

abbrev pub read_for : (file : List ℕ) (calls : ℕ) → Answer Ahead
read_for file zero = started file
read_for file (suc n) = read_on file (read_for file n)
