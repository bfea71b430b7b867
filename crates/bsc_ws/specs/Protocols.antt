-- The sub-protocols of links, and what offers them.
use Rattle.std.specs.Prelude.{◌≡◌, ◌⊎◌, ℕ, List, [], ◌∷◌, ◌++◌, codes, Contains}
use Rattle.std.specs.Str.{IsTrimAscii}
use Rattle.bsc_edge.specs.declared.kind.Kind.{Kind}
use Rattle.bsc_edge.specs.declared.kind.Kind.TheVariants.{Hub, Direct}
use Rattle.http.specs.Request.{head_of}
use Rattle.http.specs.declared.request.Request.{Request}
use Rattle.http_header.specs.HeaderMap.{Entries, get_all}
use Rattle.http_header.specs.FieldValue.{FieldValue, plain_value}

-- The sub-protocol of links of a kind.
abbrev pub protocol : Kind → List ℕ
protocol Hub = codes "hub.bsc.bacnet.org"
protocol Direct = codes "dc.bsc.bacnet.org"

-- A part of a list that is separated by commas starts after these octets.
abbrev pub StartsPart : List ℕ → Type 0
StartsPart before = (before ≡ []) ⊎ ((b : List ℕ) × (before ≡ b ++ codes ","))

-- A part of such a list ends before these octets.
abbrev pub EndsPart : List ℕ → Type 0
EndsPart after = (after ≡ []) ⊎ ((a : List ℕ) × (after ≡ codes "," ++ a))

-- One of the parts between commas, without the blanks around it, is this name.
abbrev pub Offers : List ℕ → List ℕ → Type 0
Offers text name =
    (before part after : List ℕ) × (text ≡ before ++ part ++ after) × StartsPart before × EndsPart after
    × IsTrimAscii part name

-- A header field of the request offers the sub-protocol of this kind.
abbrev pub AsksFor : Request (Unit {0}) → Kind → Type 0
AsksFor request kind =
    (v : FieldValue) × Contains (get_all (head_of request).headers (codes "sec-websocket-protocol")) v
    × Offers v.bytes (protocol kind)

-- The sub-protocol of this kind is the only one that a head names.
abbrev pub NamesOnly : Entries FieldValue → Kind → Type 0
NamesOnly headers kind = get_all headers (codes "sec-websocket-protocol") ≡ plain_value (protocol kind) ∷ []
