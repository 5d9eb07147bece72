-- `forms::form_of` meets its contract, of either kind. Assumes nothing.
use native.Mathlib.Omega.{arith}
use Rattle.xm.specs.Number.{Bytes}
use Rattle.forms.proofs.FormLaws.{inside, form_told, form_normal}
use Rattle.forms.proofs.form_of.Goals as goal
use Rattle.forms.proofs.form_of.Goals.{In-Normal}

plain : (k : In-Normal) → Bytes k.args.file.now
plain k = record { below = λ i. omega (arith, k.type_inv.file i) }

pub normal_form-requires : goal.normal_form-requires
normal_form-requires c =
    let w = inside _ _ c.requires.instrument_is (plain (goal.at.normal_form-requires c).In-Normal) in
    record { samples_le_samples_most = w.few; head_size_bound = w.behind; next_le_file_most = omega (arith, w.ends, c.requires.file_len_bound) }

pub returns-in-Normal : goal.returns-in-Normal
returns-in-Normal c =
    let b = plain (goal.at.returns-in-Normal c).In-Normal in
    rw (c.in-Normal.is, c.normal_form.ensures) (form_told _ _ c.requires.instrument_is b (form_normal _ _ c.requires.instrument_is b))
