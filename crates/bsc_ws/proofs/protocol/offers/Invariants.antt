use denote.Text.{Utf8}
use denote.Shadow.{shadow}
use Rattle.bsc_ws.proofs.Offering.{IsLeft}
use Rattle.bsc_ws.proofs.protocol.offers.Given as goal

-- What is left starts a part of the text.
abbrev pub invariant-loop : goal.invariant-loop
invariant-loop l = shadow (Utf8 l.left) × IsLeft l.text l.left
