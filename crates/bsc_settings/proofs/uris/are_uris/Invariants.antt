-- The text is URIs exactly where its rest goes on so.
use Rattle.std.proofs.Common.{◌≡◌, length}
use Rattle.bsc_settings.specs.Uris.{are_uris}
use Rattle.bsc_settings.proofs.UriWords.{rest_are_uris}
use Rattle.bsc_settings.proofs.uris.are_uris.Given as goal

abbrev pub invariant-loop-rest : goal.invariant-loop-rest
invariant-loop-rest l = are_uris l.text ≡ rest_are_uris l.begun l.rest

abbrev pub decreases-loop-rest : goal.decreases-loop-rest
decreases-loop-rest l = length l.rest
