-- What is noted in memory.
use Rattle.std.specs.Prelude.{List, Vec, Option, Some, None}
use Rattle.std.specs.declared.alloc.Global.{Global}

-- What was noted, while there was memory for it.
abbrev pub noted : {A : Type 0} → Option (Vec A Global) → Option (List A)
noted None = None
noted (Some v) = Some v.items
