-- The names of checks, as they are written.
use Rattle.std.specs.Prelude.{ℕ, List, codes}
use Rattle.bsc_frame.specs.declared.check.Check.{Check}
use Rattle.bsc_frame.specs.declared.check.Check.TheVariants.{C1, C2, C3, C4, C5, C6, C7, C7b, C8, C9, C10, C10b, C10c, C11, C12, C13}

-- the name of a check
abbrev pub check_name : Check → List ℕ
check_name C1 = codes "C1"
check_name C2 = codes "C2"
check_name C3 = codes "C3"
check_name C4 = codes "C4"
check_name C5 = codes "C5"
check_name C6 = codes "C6"
check_name C7 = codes "C7"
check_name C7b = codes "C7b"
check_name C8 = codes "C8"
check_name C9 = codes "C9"
check_name C10 = codes "C10"
check_name C10b = codes "C10b"
check_name C10c = codes "C10c"
check_name C11 = codes "C11"
check_name C12 = codes "C12"
check_name C13 = codes "C13"
