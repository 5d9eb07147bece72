-- `forms::stripped_form` meets its contract: I and H as they are measured, and the data behind as it stands. Assumes nothing.
use Prim.Native.Nat.{◌*◌, ◌≤◌}
use mathlib.Core.Path.{refl}
use native.Mathlib.Omega.{arith}
use Rattle.xm.specs.Number.{Bytes}
use Rattle.forms.proofs.FormLaws.{no_heads, PartInside, inside, times_most, form_told, form_stripped}
use Rattle.forms.proofs.stripped_form.Goals as goal
use Rattle.forms.proofs.stripped_form.Goals.{After-shared_slice_known-1, After-smallest_size-size}

-- The instrument that was read lies in the file
plain : (k : After-shared_slice_known-1) → Bytes k.args.file.now
plain k = record { below = λ i. omega (arith, k.type_inv.file i) }

within : (k : After-shared_slice_known-1) → let a = k.args in PartInside a.file.now a.at a.part
within k = inside _ _ k.requires.instrument_is (plain k)

-- Its headers are few
few : (c : After-smallest_size-size) → c.args.part.samples * c.smallest_head-head_size.result ≤ 640
few c = times_most _ _ (within (goal.at.After-smallest_size-size c).After-shared_slice_known-1).few c.smallest_head-head_size.ensures.upper_bound

pub overflow_add-heads : goal.overflow_add-heads
overflow_add-heads c = omega (arith, (within (goal.at.overflow_add-heads c).After-shared_slice_known-1).there, c.requires.file_len_bound)

pub overflow_mul-data : goal.overflow_mul-data
overflow_mul-data c =
    omega (arith, (within (goal.at.overflow_mul-data c).After-shared_slice_known-1).behind, (within (goal.at.overflow_mul-data c).After-shared_slice_known-1).ends, c.requires.file_len_bound)

pub overflow_add-data : goal.overflow_add-data
overflow_add-data c =
    omega (arith, (within (goal.at.overflow_add-data c).After-shared_slice_known-1).behind, (within (goal.at.overflow_add-data c).After-shared_slice_known-1).ends, c.requires.file_len_bound)

pub overflow_sub-data : goal.overflow_sub-data
overflow_sub-data c = omega (arith, (within (goal.at.overflow_sub-data c).After-shared_slice_known-1).behind)

pub smallest_head-head_size-requires : goal.smallest_head-head_size-requires
smallest_head-head_size-requires c =
    omega (arith, (within (goal.at.smallest_head-head_size-requires c).After-shared_slice_known-1).behind, (within (goal.at.smallest_head-head_size-requires c).After-shared_slice_known-1).ends)

pub smallest_size-size-requires-clause-size_in_bounds : goal.smallest_size-size-requires-clause-size_in_bounds
smallest_size-size-requires-clause-size_in_bounds c =
    let w = within (goal.at.smallest_size-size-requires-clause-size_in_bounds c).After-shared_slice_known-1 in
    w.there

pub smallest_size-size-requires-clause-samples_le_samples_most : goal.smallest_size-size-requires-clause-samples_le_samples_most
smallest_size-size-requires-clause-samples_le_samples_most c =
    let w = within (goal.at.smallest_size-size-requires-clause-samples_le_samples_most c).After-shared_slice_known-1 in
    w.few

pub smallest_size-size-requires-clause-head_size_value : goal.smallest_size-size-requires-clause-head_size_value
smallest_size-size-requires-clause-head_size_value c =
    let w = within (goal.at.smallest_size-size-requires-clause-head_size_value c).After-shared_slice_known-1 in
    λ none. omega (arith, c.smallest_head-head_size.ensures.value, no_heads _ _ c.requires.instrument_is none)

pub overflow_mul-result : goal.overflow_mul-result
overflow_mul-result c = omega (arith, few c)

pub overflow_add-result : goal.overflow_add-result
overflow_add-result c = omega (arith, few c, c.smallest_size-size.ensures.upper_bound)

pub overflow_add-result-2 : goal.overflow_add-result-2
overflow_add-result-2 c =
    omega (arith, few c, c.smallest_size-size.ensures.upper_bound, (within (goal.at.overflow_add-result-2 c).After-shared_slice_known-1).ends, c.requires.file_len_bound)

pub returns : goal.returns
returns c =
    form_told _ _ c.requires.instrument_is (plain (goal.at.returns c).After-shared_slice_known-1)
    (form_stripped _ _ c.requires.instrument_is (plain (goal.at.returns c).After-shared_slice_known-1) c.smallest_size-size.ensures.value c.smallest_size-size.ensures.upper_bound c.smallest_head-head_size.ensures.value c.smallest_head-head_size.ensures.upper_bound refl)
