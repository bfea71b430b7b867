-- What a machine waits for, and what a step leaves to be told, as tests.
use Rattle.std.specs.Prelude.{Bool, true, false}
use Rattle.bsc_accept.specs.declared.stage.Stage.{Stage}
use Rattle.bsc_accept.specs.declared.stage.Stage.TheVariants.{Asked}
use Rattle.bsc_accept.specs.declared.step.Step.{Step}
use Rattle.bsc_accept.specs.declared.step.Step.TheVariants.{Ask, PutClose, Close}
use Rattle.bsc_initiate.specs.declared.stage.Stage.{Stage as InitStage}
use Rattle.bsc_initiate.specs.declared.stage.Stage.TheVariants.{AwaitingWebsocket}
use Rattle.bsc_initiate.specs.declared.step.InitStep.{InitStep}
use Rattle.bsc_initiate.specs.declared.step.InitStep.TheVariants.{PutClose as InitPutClose, Refused, Close as InitClose}

-- whether an accepting machine waits for the word on who asked
abbrev pub is_asked : Stage → Bool
is_asked (Asked id) = true
is_asked stage = false

-- whether an initiating machine waits for its WebSocket
abbrev pub is_unopened : InitStage → Bool
is_unopened AwaitingWebsocket = true
is_unopened stage = false

-- whether a step asks about the peer
abbrev pub asks : Step → Bool
asks (Ask who) = true
asks step = false

-- whether messages, ticks and a finish may come after a step
abbrev pub goes_on : Step → Bool
goes_on (Ask who) = false
goes_on (PutClose octets c) = false
goes_on (Close c) = false
goes_on step = true

-- the same of a step of an initiating machine
abbrev pub init_goes_on : InitStep → Bool
init_goes_on (InitPutClose octets c) = false
init_goes_on (Refused code) = false
init_goes_on (InitClose c) = false
init_goes_on step = true
