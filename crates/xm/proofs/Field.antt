-- Fixed layouts, a tool for proofs: fields of fixed width, one after the other, are read back as they were written. Assumes nothing.
use Prim.Native.Nat.{ℕ, suc, ◌+◌, ◌*◌, ◌≤◌, ◌<◌}
use mathlib.Core.List.{List, [], ◌∷◌, ◌++◌, append_assoc}
use mathlib.Core.Path.{◌≡◌, refl, sym, ap, ap₂, ◌∙◌}
use native.Mathlib.Nat.{add-zero}
use native.Mathlib.Numerals.{add-one}
use native.Mathlib.Omega.{arith}
use lib.ListN.{length, get_or, take, drop, length-append, length-drop}
use lib.Seq.{drop-append_seam, drop-drop, drop-cons, take-add, take_at, length-take-le, get_or-append_seam}
use Rattle.xm.specs.Number.{Bytes, byte_at, word_at, long_at, part, byte, word, long}
use Rattle.xm.proofs.Number.{bytes_drop, bytes_nil, bytes_cons, bytes_append, bytes_take, word_small, long-small}
use Rattle.xm.proofs.Number.{word-drop, long-drop, Agree, agree_byte, agree_word, agree_long, agree_part}
use Rattle.xm.proofs.Format.{pair_path, cons_path}

-- What a field reads at an offset, what it writes, and the values that fit
pub record Field (A : Type 0) : Type 1 where
  pub width : ℕ
  pub Fits : A → Type 0
  pub get : ℕ → List ℕ → A
  pub put : A → List ℕ
  pub size : (x : A) → Fits x → length (put x) ≡ width
  pub back : (front : List ℕ) (x : A) (rest : List ℕ) → Fits x → get (length front) (front ++ (put x ++ rest)) ≡ x
  pub plain : (x : A) → Fits x → Bytes (put x)
  pub fits : (offset : ℕ) (s : List ℕ) → Bytes s → offset + width ≤ length s → Fits (get offset s)
  pub forth : (offset : ℕ) (s : List ℕ) → Bytes s → offset + width ≤ length s → put (get offset s) ≡ part offset width s
  pub firm : (offset n : ℕ) (s t : List ℕ) → Agree n s t → offset + width ≤ n → get offset s ≡ get offset t

-- Two bytes are a word, and four a long
word_front : (x : ℕ) (rest : List ℕ) → x < 65536 → word_at 0 (word x ++ rest) ≡ x
unfolding word_at
word_front x rest h = omega arith

long_front : (x : ℕ) (rest : List ℕ) → x < 4294967296 → long_at 0 (long x ++ rest) ≡ x
unfolding long_at
long_front x rest h = omega arith

pub word_back : (front : List ℕ) (x : ℕ) (rest : List ℕ) → x < 65536 → word_at (length front) (front ++ (word x ++ rest)) ≡ x
word_back front x rest h =
    ap (λ (o : ℕ). word_at o (front ++ (word x ++ rest))) (sym (add-zero (length front)))
    ∙ sym (word-drop (length front) 0 (front ++ (word x ++ rest)))
    ∙ ap (word_at 0) (drop-append_seam front (word x ++ rest))
    ∙ word_front x rest h

pub long_back : (front : List ℕ) (x : ℕ) (rest : List ℕ) → x < 4294967296 → long_at (length front) (front ++ (long x ++ rest)) ≡ x
long_back front x rest h =
    ap (λ (o : ℕ). long_at o (front ++ (long x ++ rest))) (sym (add-zero (length front)))
    ∙ sym (long-drop (length front) 0 (front ++ (long x ++ rest)))
    ∙ ap (long_at 0) (drop-append_seam front (long x ++ rest))
    ∙ long_front x rest h

pub word_plain : (x : ℕ) → x < 65536 → Bytes (word x)
word_plain x h = bytes_cons (omega arith) (bytes_cons (omega arith) bytes_nil)

pub long_plain : (x : ℕ) → x < 4294967296 → Bytes (long x)
long_plain x h = bytes_cons (omega arith) (bytes_cons (omega arith) (bytes_cons (omega arith) (bytes_cons (omega arith) bytes_nil)))

-- and the bytes that are there are those that would be written
one_more_lem : (offset next width : ℕ) (s : List ℕ) → next ≡ offset + 1 → offset < length s → part offset (suc width) s ≡ get_or s offset 0 ∷ part next width s
one_more_lem offset next width s e h =
    ap (take (suc width)) (drop-cons s offset 0 h) ∙ ap {B = List ℕ} (λ (n : ℕ). get_or s offset 0 ∷ part n width s) (sym (e ∙ add-one offset))

pub byte_forth : (offset : ℕ) (s : List ℕ) → offset + 1 ≤ length s → byte (byte_at offset s) ≡ part offset 1 s
byte_forth offset s h = sym (one_more_lem offset (offset + 1) 0 s refl (omega arith))

two_bytes : (a b : ℕ) → a < 256 → b < 256 → word (a + 256 * b) ≡ a ∷ b ∷ []
two_bytes a b p q = cons_path (omega arith) (cons_path (omega arith) refl)

pub word_forth : (offset : ℕ) (s : List ℕ) → Bytes s → offset + 2 ≤ length s → word (word_at offset s) ≡ part offset 2 s
unfolding word_at
word_forth offset s b h =
    two_bytes (get_or s offset 0) (get_or s (offset + 1) 0) (b.below offset) (b.below (offset + 1))
    ∙ sym (one_more_lem offset (offset + 1) 1 s refl (omega arith) ∙ cons_path refl (one_more_lem (offset + 1) (offset + 2) 0 s (omega arith) (omega arith)))

four_bytes : (a b c d : ℕ) → a < 256 → b < 256 → c < 256 → d < 256 → long (a + 256 * b + 65536 * c + 16777216 * d) ≡ a ∷ b ∷ c ∷ d ∷ []
four_bytes a b c d p q r t = cons_path (omega arith) (cons_path (omega arith) (cons_path (omega arith) (cons_path (omega arith) refl)))

pub long_forth : (offset : ℕ) (s : List ℕ) → Bytes s → offset + 4 ≤ length s → long (long_at offset s) ≡ part offset 4 s
unfolding long_at
long_forth offset s b h =
    four_bytes (get_or s offset 0) (get_or s (offset + 1) 0) (get_or s (offset + 2) 0) (get_or s (offset + 3) 0)
    (b.below offset) (b.below (offset + 1)) (b.below (offset + 2)) (b.below (offset + 3))
    ∙ sym (one_more_lem offset (offset + 1) 3 s refl (omega arith)
    ∙ cons_path refl (one_more_lem (offset + 1) (offset + 2) 2 s (omega arith) (omega arith)
    ∙ cons_path refl (one_more_lem (offset + 2) (offset + 3) 1 s (omega arith) (omega arith)
    ∙ cons_path refl (one_more_lem (offset + 3) (offset + 4) 0 s (omega arith) (omega arith)))))

abbrev pub byte_field : Field ℕ
byte_field = record {
  width = 1;
  Fits = λ x. x < 256;
  get = byte_at;
  put = byte;
  size = λ x h. refl;
  back = λ front x rest h. get_or-append_seam front x rest 0;
  plain = λ x h. bytes_cons h bytes_nil;
  fits = λ offset s b h. b.below offset;
  forth = λ offset s b h. byte_forth offset s h;
  firm = λ offset n s t a h. agree_byte a offset (omega arith);
}

abbrev pub word_field : Field ℕ
word_field = record {
  width = 2;
  Fits = λ x. x < 65536;
  get = word_at;
  put = word;
  size = λ x h. refl;
  back = word_back;
  plain = word_plain;
  fits = λ offset s b h. word_small offset b;
  forth = word_forth;
  firm = λ offset n s t a h. agree_word a offset h;
}

abbrev pub long_field : Field ℕ
long_field = record {
  width = 4;
  Fits = λ x. x < 4294967296;
  get = long_at;
  put = long;
  size = λ x h. refl;
  back = long_back;
  plain = long_plain;
  fits = λ offset s b h. long-small offset b;
  forth = long_forth;
  firm = λ offset n s t a h. agree_long a offset h;
}

-- n bytes as they stand; and no bytes
abbrev pub text_field : ℕ → Field (List ℕ)
text_field n = record {
  width = n;
  Fits = λ x. (length x ≡ n) × Bytes x;
  get = λ offset s. part offset n s;
  put = λ x. x;
  size = λ x h. h.0;
  back = λ front x rest h. ap (take n) (drop-append_seam front (x ++ rest)) ∙ take_at x rest n h.0;
  plain = λ x h. h.1;
  fits = λ offset s b h. (length-take-le n (drop offset s) (omega (arith, length-drop offset s)), bytes_take n (bytes_drop offset b));
  forth = λ offset s b h. refl;
  firm = λ offset k s t a h. agree_part a offset n h;
}

abbrev pub no_field : Field (Unit {0})
no_field = record {
  width = 0;
  Fits = λ x. Unit {0};
  get = λ offset s. tt;
  put = λ x. [];
  size = λ x h. refl;
  back = λ front x rest h. refl;
  plain = λ x h. bytes_nil;
  fits = λ offset s b h. tt;
  forth = λ offset s b h. refl;
  firm = λ offset n s t a h. refl;
}

infixr 60 ◌⊗◌
abbrev pub ◌⊗◌ : {A B : Type 0} → Field A → Field B → Field (A × B)
◌⊗◌ f g = record {
  width = f.width + g.width;
  Fits = λ x. f.Fits x.0 × g.Fits x.1;
  get = λ offset s. (f.get offset s, g.get (offset + f.width) s);
  put = λ x. f.put x.0 ++ g.put x.1;
  size = λ x h. length-append (f.put x.0) (g.put x.1) ∙ (rw (f.size x.0 h.0, g.size x.1 h.1));
  back = λ front x rest h.
      rw append_assoc
      (pair_path (f.back front x.0 _ h.0)
      (ap₂ (λ (o : ℕ) (s : List ℕ). g.get o s)
      (ap (λ (n : ℕ). length front + n) (sym (f.size x.0 h.0)) ∙ sym (length-append front (f.put x.0)))
      (sym (append_assoc front (f.put x.0) (g.put x.1 ++ rest)))
      ∙ g.back (front ++ f.put x.0) x.1 rest h.1));
  plain = λ x h. bytes_append (f.plain x.0 h.0) (g.plain x.1 h.1);
  fits = λ offset s b h. (f.fits offset s b (omega arith), g.fits (offset + f.width) s b (omega arith));
  forth = λ offset s b h.
      ap₂ (λ (p q : List ℕ). p ++ q) (f.forth offset s b (omega arith)) (g.forth (offset + f.width) s b (omega arith))
      ∙ ap (λ (l : List ℕ). part offset f.width s ++ take g.width l) (sym (drop-drop f.width offset s))
      ∙ sym (take-add f.width g.width (drop offset s));
  firm = λ offset n s t a h. pair_path (f.firm offset n s t a (omega arith)) (g.firm (offset + f.width) n s t a (omega arith));
}
