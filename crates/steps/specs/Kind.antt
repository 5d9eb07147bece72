-- The code's kind of module as the definitions' one.
use Rattle.xm.specs.ModuleKind as paper
use Rattle.steps.specs.declared.kind.ModuleKind.{ModuleKind}
use Rattle.steps.specs.declared.kind.ModuleKind.TheVariants.{Normal, Stripped}

abbrev pub kind_of : ModuleKind → paper.ModuleKind
kind_of Normal = paper.normal
kind_of Stripped = paper.stripped
