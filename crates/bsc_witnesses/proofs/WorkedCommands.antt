-- What there is outside the commands, and with which statuses they end, written out.
-- No clause needs it: worked examples.
use Rattle.std.proofs.Common.{◌≡◌, ℕ, ◌<◌, ⊎_elim, ◌⊎◌, inl, inr, true, false, List, [], ◌∷◌, length, Option, Some, None, refl, sym, ap, ◌∙◌, arith, lit<, lit≤}
use Rattle.bsc_node.specs.declared.node_event.NodeEvent.TheVariants.{Finish}
use Rattle.bsc_node_run.specs.declared.due.Due.{Due}
use Rattle.bsc_node_run.specs.declared.parts.NodeParts.{NodeParts}
use Rattle.bsc_node_run.specs.Worlds.{Dialling}
use Rattle.bsc_node_laws.specs.Courses.{FinishCame}
use Rattle.bsc_player.specs.LastLines.{read_line, words_line}
use Rattle.bsc_serve.specs.declared.parts.ServingParts.{ServingParts}
use Rattle.bsc_serve.specs.Asking.{Asking, asking_by, look_at}
use Rattle.bsc_serve.specs.Worlds.{Stock}
use Rattle.bsc_hub_command.specs.declared.asked.HubAsked.{HubAsked}
use Rattle.bsc_hub_command.specs.Served.{Books, Door, HasFailed, LimitedTo, books_by, door_by, status_with, stock_by, terms_in, world_by}
use Rattle.bsc_node_command.specs.Comes.{AcceptorWorld, acceptor_world, node_world}
use Rattle.bsc_cli.specs.Words.{audit, check, hub, live_node, replay}
use Rattle.bsc_commands.specs.declared.outside.Outside.{Outside}
use Rattle.bsc_commands.specs.Ends.{CutShort, EndsBy, LeavesAsker, LeavesLines, TouchesOnly}
use Rattle.bsc_witnesses.proofs.Pieces.{unlike}

-- ---- statuses

audit_ends : EndsBy (Some audit) 10
audit_ends = inr (inr (inr (inr (inr refl))))

check_ends : EndsBy (Some check) 2
check_ends = inr (inl refl)

lines_end : EndsBy (Some (live_node [])) 8
lines_end = inr (inr (inr (inr (inr (inr refl)))))

lines_are_cut : CutShort (Some (live_node [])) true
lines_are_cut = refl

-- A script is read before a node runs.
scripts_are_not_cut : CutShort (Some check) true → ⊥
scripts_are_not_cut h = h

takes_lines : LeavesLines {X = ℕ} (Some (live_node [])) 3 4
takes_lines = tt

takes_no_lines : LeavesLines {X = ℕ} (Some check) 3 4 → ⊥
takes_no_lines h = unlike 4 3 refl h

-- Where the words ask for nothing no line is refused.
nothing_ends : EndsBy None 2 → ⊥
nothing_ends h =
    ⊎_elim
    (λ (e : ◌≡◌ {A = ℕ} 2 1). unlike 2 1 refl e)
    (λ (r : (◌≡◌ {A = ℕ} 2 4) ⊎ (◌≡◌ {A = ℕ} 2 7)). ⊎_elim (λ (e : ◌≡◌ {A = ℕ} 2 4). unlike 2 4 refl e) (λ (e : ◌≡◌ {A = ℕ} 2 7). unlike 2 7 refl e) r)
    h

last_line : words_line ≡ read_line → ⊥
last_line h = (let bad : ◌≡◌ {A = ℕ} 12 11 = ap (λ (l : List ℕ). length l) h in cc)

-- ---- what a command touches

abbrev There : Type 0
There = Outside ℕ ℕ ℕ ℕ ℕ ℕ ℕ ℕ ℕ ℕ ℕ

writes : (x : There) → TouchesOnly None x (record x { sink = 3 })
writes x = refl

reads : (x : There) → TouchesOnly (Some replay) x (record x { sink = 3; source = 4 })
reads x = refl

-- Where nothing is asked for the input isn't read.
reads_unasked : (x : There) → x.source ≡ 3 → TouchesOnly None x (record x { source = 4 }) → ⊥
reads_unasked x three h = unlike 4 3 refl (ap (λ (y : There). y.source) h ∙ three)

-- An asker is left alone where no hub is made.
leaves : LeavesAsker {H = ℕ} {Q = ℕ} (Some replay) None 3 3
leaves = refl

leaves_unmade : LeavesAsker {H = ℕ} {Q = ℕ} (Some (hub [] None None None)) None 3 4 → ⊥
leaves_unmade h = unlike 4 3 refl (h refl)

asks_made : LeavesAsker {H = ℕ} {Q = ℕ} (Some (hub [] None None None)) (Some 1) 3 4
asks_made none = absurd (let bad : ◌≡◌ {A = Option ℕ} (Some 1) None = none in cc)

-- ---- what parts tell

abbrev a_door : Door ℕ
a_door = record { links = Some (7 ∷ []); came = Some []; waits = None; quiets = 4; port = Some (Some 47808); faults = 2 }

door : door_by {A = ℕ} {L = ℕ} (λ a. Some (a ∷ [])) (λ a. Some []) (λ a. None) (λ a. 4) (λ a. Some (Some 47808)) (λ a. 2) 7 ≡ a_door
door = refl

other_door : (door_by {A = ℕ} {L = ℕ} (λ a. Some (a ∷ [])) (λ a. Some []) (λ a. None) (λ a. 4) (λ a. Some None) (λ a. 2) 7).port ≡ Some (Some 47808) → ⊥
other_door h = (let bad : ◌≡◌ {A = Option (Option ℕ)} (Some None) (Some (Some 47808)) = h in cc)

abbrev a_stock : Stock ℕ ℕ ℕ
a_stock = record { jobs = Some []; given_back = None; out = []; unstarted = 5 }

stock : stock_by {P = ℕ} {L = ℕ} {C = ℕ} {N = ℕ} (λ p. Some []) (λ p. None) (λ p. []) (λ p. p) 5 ≡ a_stock
stock = refl

other_stock : (stock_by {P = ℕ} {L = ℕ} {C = ℕ} {N = ℕ} (λ p. Some []) (λ p. None) (λ p. []) (λ p. p) 5).unstarted ≡ 6 → ⊥
other_stock h = unlike 5 6 refl h

abbrev asking : Asking
asking = asking_by {Q = ℕ} (λ q. Some (look_at [] false ∷ [])) (λ q. q) (λ q. None) 6

asks_so : asking ≡ record { looks = Some (record { asks = false; entered = [] } ∷ []); asked = 6; endings = None }
asks_so = refl

asks_otherwise : asking.asked ≡ 7 → ⊥
asks_otherwise h = unlike 6 7 refl h

abbrev a_book : Books
a_book = record { begun = Some []; unbegun = 9; lost = Some (true ∷ []); limits = None }

books : books_by {J = ℕ} (λ j. Some []) (λ j. j) (λ j. Some (true ∷ [])) (λ j. None) 9 ≡ a_book
books = refl

other_books : (books_by {J = ℕ} (λ j. Some []) (λ j. j) (λ j. Some (true ∷ [])) (λ j. None) 9).unbegun ≡ 8 → ⊥
other_books h = unlike 9 8 refl h

abbrev parts : ServingParts ℕ ℕ ℕ ℕ
parts = record { acceptor = 7; clock = 0; spawner = 5; journals = 9 }

world : world_by {A = ℕ} {C = ℕ} {P = ℕ} {J = ℕ} {L = ℕ} {N = ℕ} (λ a. a_door) (λ p. a_stock) (λ j. a_book) parts (Some []) asking ≡ record {
  links = Some (7 ∷ []);
  came = Some [];
  waits = None;
  quiets = 4;
  port = Some (Some 47808);
  faults = 2;
  jobs = Some [];
  given_back = None;
  out = [];
  unstarted = 5;
  begun = Some [];
  unbegun = 9;
  lost = Some (true ∷ []);
  limits = None;
  written = Some [];
  asking = asking;
}
world = refl

other_world : (world_by {A = ℕ} {C = ℕ} {P = ℕ} {J = ℕ} {L = ℕ} {N = ℕ} (λ a. a_door) (λ p. a_stock) (λ j. a_book) parts (Some []) asking).unbegun ≡ 8 → ⊥
other_world h = unlike 9 8 refl h

-- where lines of journals were lost, the status is 4 in place of 0, and another stays
lines_lost : status_with true 0 ≡ 4
lines_lost = refl

lines_lost_too : status_with true 6 ≡ 6
lines_lost_too = refl

lines_kept : status_with false 0 ≡ 0
lines_kept = refl

lines_lost_well : status_with true 0 ≡ 0 → ⊥
lines_lost_well h = unlike 4 0 refl h

-- files are limited to the length that is asked for, and to none where none is
limited : LimitedTo (Some 4096) (Some []) (Some (4096 ∷ []))
limited = refl

unlimited : LimitedTo None (Some []) (Some [])
unlimited = refl

limited_uncalled : LimitedTo (Some 4096) (Some []) (Some []) → ⊥
limited_uncalled h = (let bad : ◌≡◌ {A = List ℕ} [] (4096 ∷ []) = h in cc)

limited_unasked : LimitedTo None (Some []) (Some (4096 ∷ [])) → ⊥
limited_unasked h = (let bad : ◌≡◌ {A = Option (List ℕ)} (Some (4096 ∷ [])) (Some []) = h in cc)

failed : HasFailed {N = ℕ} (λ journal. journal) (Some 3)
failed = (3, refl, unlike 3 0 refl)

did_not_fail : HasFailed {N = ℕ} (λ journal. 0) (Some 3) → ⊥
did_not_fail h = h.2 refl

has_no_journal : HasFailed {N = ℕ} (λ journal. journal) None → ⊥
has_no_journal h = (let bad : ◌≡◌ {A = Option ℕ} None (Some h.0) = h.1 in cc)

awaits : (asked : HubAsked) → asked.sessions ≡ Some 3 → (terms_in asked).sessions ≡ Some 3
awaits asked three = three

awaits_others : (asked : HubAsked) → asked.sessions ≡ Some 3 → (terms_in asked).sessions ≡ None → ⊥
awaits_others asked three none = (let bad : ◌≡◌ {A = Option ℕ} (Some 3) None = sym three ∙ none in cc)

abbrev acceptor : AcceptorWorld ℕ
acceptor = acceptor_world {A = ℕ} {L = ℕ} (λ a. Some (a ∷ [])) (λ a. Some []) (λ a. None) (λ a. Some None) (λ a. 2) 7

accepts : acceptor ≡ record { door = record { left = Some (7 ∷ []); came = Some []; waits = None }; port = Some None; faults = 2 }
accepts = refl

accepts_others : (acceptor_world {A = ℕ} {L = ℕ} (λ a. Some []) (λ a. Some []) (λ a. None) (λ a. Some None) (λ a. 2) 7).door.left ≡ Some (7 ∷ []) → ⊥
accepts_others h = (let bad : ◌≡◌ {A = Option (List ℕ)} (Some []) (Some (7 ∷ [])) = h in cc)

abbrev dialler : Dialling ℕ
dialler = record { calls = Some []; left = None; came = None; faults = 0 }

abbrev node_parts : NodeParts ℕ ℕ ℕ
node_parts = record { waiter = 1; random = 2; dialer = 3 }

node : node_world {D = ℕ} {L = ℕ} {V = ℕ} {W = ℕ} (λ d. dialler) (λ w. Some (w ∷ [])) node_parts acceptor (Some []) None
    ≡ record { dialled = dialler; door = acceptor.door; port = Some None; faults = 2; readings = Some []; waited = Some (1 ∷ []); random = 2; written = None }
node = refl

other_node : (node_world {D = ℕ} {L = ℕ} {V = ℕ} {W = ℕ} (λ d. dialler) (λ w. Some (w ∷ [])) node_parts acceptor (Some []) None).random ≡ 3 → ⊥
other_node h = unlike 2 3 refl h

-- ---- when a script is over

abbrev finish : Due
finish = record { at = 100; event = Finish; octets = refl }

-- A tenth of a second has passed.
is_over : FinishCame (finish ∷ []) (Some []) (Some (5 ∷ 60 ∷ 105 ∷ []))
is_over = (5 ∷ 60 ∷ 105 ∷ [], refl, (finish, (0, lit< tt, refl), refl, lit≤ tt))

-- A script of no lines has no finish.
is_not_over : FinishCame [] (Some []) (Some []) → ⊥
is_not_over h = (let there : h.2.1.0 < 0 = h.2.1.1 in omega (arith, there))
