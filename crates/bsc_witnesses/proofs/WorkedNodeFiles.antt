-- A run of the command `node` whose settings can't be read, written out: what it comes to, and what it doesn't. And what settings
-- and the words of the program say.
-- No clause needs it: worked examples.
use Rattle.std.proofs.Common.{◌≡◌, ℕ, ◌≤◌, ⊎_elim, inl, List, [], map, pos, Option, Some, None, refl, sym, ap, ◌∙◌, arith, lit<, lit≤}
use Rattle.std.specs.Prelude.{codes, string_bytes}
use Rattle.std.specs.Io.KnownBytes.{Appends}
use Rattle.toml.specs.Data.{Members, integer, member, no_members}
use Rattle.toml.proofs.OnLiterals.{toml_on_literals}
use Rattle.bsc_outside.specs.Faults.{HasRisen, PutsPrefix}
use Rattle.bsc_edge.specs.declared.said.Said.{Said}
use Rattle.bsc_node.specs.declared.node_event.NodeEvent.{NodeEvent}
use Rattle.bsc_player.specs.LastLines.{EndsWith, RanOut, SaysOrRunsOut, read_line}
use Rattle.bsc_settings.specs.declared.node.NodeSettings.{NodeSettings}
use Rattle.bsc_settings.specs.Documents.{IsDocument}
use Rattle.bsc_settings.specs.Table.{RowTakes, port_row, vmac_row}
use Rattle.bsc_node_command.specs.Comes.{CommandWorld, NodeFiles, RunsFiles, RunsScript, IsUntouched}
use Rattle.bsc_node_command.specs.Lines.{settings_line}
use Rattle.bsc_node_command.specs.Settled.{IsRefusedAsNode, IsSettled, Unread, Unsettled}
use Rattle.bsc_node_command.specs.Tested.{TestWorld, TestsNode, TestsScript}
use Rattle.bsc_hub_command.specs.Tested.{TestsHub}
use Rattle.bsc_cli.specs.declared.read.ReadWords.{ReadWords}
use Rattle.bsc_cli.specs.Read.{asked_in}
use Rattle.bsc_cli.specs.Words.{AskedOf, asked_by, audit}
use Rattle.bsc_witnesses.proofs.Pieces.{unlike}

-- ---- a run that reads no settings

-- No link tells anything, and no word is drawn.
abbrev silent : ℕ → Option (List Said)
silent link = None

abbrev no_word : NodeEvent → ℕ → ℕ → Type 0
no_word event before after = ⊥

-- Neither file has octets.
abbrev nothing : List ℕ → Type 0
nothing text = ⊥

abbrev no_files : NodeFiles
no_files = record { settings = nothing; script = nothing }

-- what there is outside: nothing was asked for, this was written, and so often a file couldn't be read
abbrev outside : List ℕ → ℕ → CommandWorld ℕ ℕ
outside written unread = record {
  beside = record {
    dialled = record { calls = Some []; left = Some []; came = Some []; faults = 0 };
    door = record { left = Some []; came = Some []; waits = Some [] };
    port = Some None;
    faults = 0;
    readings = Some [];
    waited = Some [];
    random = 0;
    written = Some written;
  };
  unread = unread;
}

unread : RunsFiles silent no_word no_files (outside [] 0) (outside read_line 1) 3
unread = inl (refl, inl (inl (inl (lit< tt), inl (refl, refl))))

-- Its status is no other.
not_ends : (wanted : ℕ) (before after : Option (List ℕ)) (line : List ℕ) → (5 ≡ wanted → ⊥) → EndsWith 5 wanted before after line → ⊥
not_ends wanted before after line other h =
    ⊎_elim
    (λ (x : (5 ≡ wanted) × Appends before after line). other x.0)
    (λ (y : (◌≡◌ {A = ℕ} 5 4) × PutsPrefix before after line). unlike 5 4 refl y.0)
    h

not_out : (before after : Option (List ℕ)) → RanOut 5 before after → ⊥
not_out before after h = unlike 5 7 refl h.0

not_unread : (f f' : ℕ) (before after : Option (List ℕ)) → Unread f f' 5 before after → ⊥
not_unread f f' before after h =
    ⊎_elim
    (λ (x : HasRisen f f' × EndsWith 5 3 before after read_line). not_ends 3 before after read_line (unlike 5 3 refl) x.1)
    (λ (y : RanOut 5 before after). not_out before after y)
    h

-- It isn't 5, as of a file whose settings are refused: there is none.
not_refused : (before after : CommandWorld ℕ ℕ) → RunsFiles silent no_word no_files before after 5 → ⊥
not_refused before after h =
    ⊎_elim
    (λ (x : IsUntouched before.beside after.beside × Unsettled nothing before.unread after.unread 5 before.beside.written after.beside.written).
    ⊎_elim
    (λ (y : Unread before.unread after.unread 5 before.beside.written after.beside.written). not_unread before.unread after.unread before.beside.written after.beside.written y)
    (λ (z : (text : List ℕ) × (name : List ℕ) × nothing text × IsRefusedAsNode text name × SaysOrRunsOut 5 5 before.beside.written after.beside.written (settings_line name)). z.2)
    x.1)
    (λ (w : (v : NodeSettings) × IsSettled nothing v × RunsScript silent no_word v nothing before after 5). w.1.held)
    h

-- ---- settings that are tried, and can't be read

hub_tried : TestsHub nothing 0 1 3 (Some []) (Some read_line)
hub_tried = inl (inl (inl (lit< tt), inl (refl, refl)))

node_tried : TestsNode no_files (record { unread = 0; written = Some [] }) (record { unread = 1; written = Some read_line }) 3
node_tried = inl (inl (inl (inl (lit< tt), inl (refl, refl))))

-- The status isn't 5 here either.
not_tried : (before after : TestWorld) → TestsNode no_files before after 5 → ⊥
not_tried before after h =
    ⊎_elim
    (λ (x : Unsettled nothing before.unread after.unread 5 before.written after.written).
    ⊎_elim
    (λ (y : Unread before.unread after.unread 5 before.written after.written). not_unread before.unread after.unread before.written after.written y)
    (λ (z : (text : List ℕ) × (name : List ℕ) × nothing text × IsRefusedAsNode text name × SaysOrRunsOut 5 5 before.written after.written (settings_line name)). z.2)
    x)
    (λ (w : (v : NodeSettings) × IsSettled nothing v × TestsScript v nothing before after 5). w.1.held)
    h

-- ---- settings

port_taken : RowTakes port_row 47808
port_taken = (lit≤ tt, lit≤ tt)

port_too_great : RowTakes port_row 65536 → ⊥
port_too_great h = (let bad : 65536 ≤ 65535 = h.1 in omega (arith, bad))

-- A row of addresses takes no number.
no_number : RowTakes vmac_row 1 → ⊥
no_number h = h

document : IsDocument (codes "turns = 3\n") (member (codes "turns") (integer (pos 3)) no_members)
unfolding toml_on_literals
document = ((codes "turns = 3\n", (refl, refl)), refl)

no_document : (doc : Members) → IsDocument (codes "turns\n") doc → ⊥
unfolding toml_on_literals
no_document doc h = (let bad : ◌≡◌ {A = Option Members} None (Some doc) = h.1 in cc)

-- ---- the words of the program

no_words : (read : ReadWords) → map string_bytes read.words.now ≡ [] → asked_in read ≡ None
no_words read none = ap asked_by none

not_asked : (read : ReadWords) → map string_bytes read.words.now ≡ [] → asked_in read ≡ Some audit → ⊥
not_asked read none asked = (let bad : ◌≡◌ {A = Option AskedOf} None (Some audit) = sym (no_words read none) ∙ asked in cc)
