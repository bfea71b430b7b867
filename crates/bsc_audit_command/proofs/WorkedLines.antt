-- What is written of an answer, worked by hand.
-- No clause needs it: worked examples.
use Rattle.std.proofs.Common.{inl, [], codes, Some, refl}
use Rattle.std.specs.Fmt.{digits}
use Rattle.bsc_audit.specs.declared.audit_end.AuditEnd.TheVariants.{Legal, Illegal}
use Rattle.bsc_audit_command.specs.Lines.{SaysAudit}

legal : SaysAudit (Legal 3) 0 (Some []) (Some (codes "legal 3\n"))
unfolding digits
legal = inl (inl (refl, refl))

illegal : SaysAudit (Illegal 2) 10 (Some []) (Some (codes "illegal 2\n"))
unfolding digits
illegal = inl (inl (refl, refl))
