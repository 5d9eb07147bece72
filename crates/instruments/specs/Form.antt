-- What the writers of an instrument's fields take of its form, by the kind of module that is written.
use Rattle.std.specs.Prelude.{◌≤◌, ◌≡◌}
use Rattle.xm.specs.ModuleKind.{ModuleKind, normal, stripped}
use Rattle.xm.specs.Sample.{least_head}
use Rattle.xm.specs.Instrument.{least_instrument, least_stripped}
use Rattle.steps.specs.declared.instrument.InstrumentPart.{InstrumentPart}
use Rattle.forms.specs.declared.Form.{Form}

abbrev pub FieldsFit : ModuleKind → InstrumentPart → Form → Type 0
FieldsFit normal piece form = (form.size ≡ least_instrument piece.samples) × (form.head_size ≡ least_head)
FieldsFit stripped piece form = (least_stripped ≤ form.size) × (form.size ≤ 241) × (form.head_size ≤ least_head)
