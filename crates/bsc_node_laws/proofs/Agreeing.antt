-- How what a run has in its hands agrees with the log of its node: each link is there where the log says so, and what is
-- new of a link waits to be told.
-- It serves bsc_application, bsc_node_command and bsc_node_links.
use Rattle.std.proofs.Common.{◌≡◌, Bool, true, false, ◌||◌, List, [], ◌∷◌, ◌++◌, Option, Some, None}
use Rattle.std.specs.Prelude.{◌⊎◌, filter, map}
use Rattle.std.specs.List.{list_all}
use Rattle.bsc_node.specs.declared.link_name.LinkName.{LinkName}
use Rattle.bsc_node.specs.Logs.{Log, is_finishing}
use Rattle.bsc_node.specs.Links.{is_there, was_taken}
use Rattle.bsc_node.specs.Conditions.{has_opened}
use Rattle.bsc_node_run.specs.declared.news.Change.{Change}
use Rattle.bsc_node_run.specs.declared.news.Change.TheVariants.{Opened, DialFailed, Lost}
use Rattle.bsc_node_run.specs.declared.news.News.{News}
use Rattle.bsc_node_run.specs.Worlds.{World, is_name, is_of}

-- what is new of the link of a name, the oldest first
abbrev pub changes_of : LinkName → List News → List Change
changes_of name news = map (λ (n : News). n.change) (filter (is_of name) news)

-- all that is new
abbrev pub news_in : {L : Type 0} → World L → List News
news_in w = w.due ++ w.waiting

-- a link that is open: it is in hand, or that it was lost waits to be told
abbrev pub AgreesOpen : {L : Type 0} → Option L → List Change → Type 0
AgreesOpen (Some l) changes = changes ≡ []
AgreesOpen None changes = changes ≡ Lost ∷ []

-- a link that is under way: it is in hand, or it failed, or it was lost since; and that waits to be told
abbrev pub AgreesDialled : {L : Type 0} → Option L → List Change → Type 0
AgreesDialled (Some l) changes = changes ≡ Opened ∷ []
AgreesDialled None changes = (changes ≡ DialFailed ∷ []) ⊎ (changes ≡ Opened ∷ Lost ∷ [])

-- by whether the link is there, and whether it is open
abbrev pub AgreesBy : {L : Type 0} → Bool → Bool → Option L → List Change → Type 0
AgreesBy false opened link changes = (link ≡ None) × (changes ≡ [])
AgreesBy true true link changes = AgreesOpen link changes
AgreesBy true false link changes = AgreesDialled link changes

-- the link of a name
abbrev pub AgreesOn : {L : Type 0} → World L → Log → LinkName → Type 0
AgreesOn w M name = AgreesBy (is_there name M) (was_taken name M || has_opened name M) (w.link name) (changes_of name (news_in w))

-- All links of a node agree with its log, there are no others, and that the node has ended was told only once it was to.
pub record Agrees {L : Type 0} (w : World L) (M : Log) : Type 0 where
  pub links : (name : LinkName) → is_name name ≡ true → AgreesOn w M name
  pub others : (name : LinkName) → is_name name ≡ false → w.link name ≡ None
  pub named : list_all (λ (n : News). is_name n.link) (news_in w) ≡ true
  pub finished : w.finished ≡ true → is_finishing M ≡ true
