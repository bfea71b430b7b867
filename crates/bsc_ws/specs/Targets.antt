-- Whom the URIs of links name.
use Rattle.std.specs.Prelude.{◌≡◌, ◌⊎◌, ℕ, List, [], ◌∷◌, ◌++◌, codes, Option, Some, IsUtf8}
use Rattle.std.specs.Net.Grammar.{IsIpv4Text}
use Rattle.std.specs.Net.Addr.{ipv4_octets}
use Rattle.std.specs.Net.Socket.{v4_ip}
use Rattle.std.specs.declared.net.ipv4_addr.Ipv4Addr.{Ipv4Addr}
use Rattle.std.specs.declared.net.socket_addr.SocketAddrV4.{SocketAddrV4}
use Rattle.bsc_edge.specs.Told.{Grows}
use Rattle.http_uri.specs.Uri.{Spells, IsHostOf}
use Rattle.http_uri.specs.declared.uri.Uri.{Uri}

-- The host is this address written in numbers, or localhost and the address is 127.0.0.1.
abbrev pub NamesAddress : List ℕ → Ipv4Addr → Type 0
NamesAddress host address =
    ((host ≡ codes "localhost") × (ipv4_octets address ≡ 127 ∷ 0 ∷ 0 ∷ 1 ∷ [])) ⊎ IsIpv4Text host address

-- The URI begins with ws://.
abbrev pub BeginsWs : List ℕ → Type 0
BeginsWs uri = (rest : List ℕ) × (uri ≡ codes "ws://" ++ rest)

-- The URI begins so, and its host names this address.
abbrev pub Names : List ℕ → SocketAddrV4 → Type 0
Names uri target =
    BeginsWs uri
    × ((u : Uri) × (host : List ℕ) × Spells uri u × IsHostOf u (Some host) × NamesAddress host (v4_ip target))

-- The URI is UTF-8, and names somebody who is dialled.
abbrev pub IsDialable : List ℕ → Type 0
IsDialable uri = IsUtf8 uri × ((target : SocketAddrV4) × Names uri target)

-- What was opened grew by the address that the URI names, and by nothing else, where that is told.
abbrev pub IsOpenedFor : List ℕ → Option (List SocketAddrV4) → Option (List SocketAddrV4) → Type 0
IsOpenedFor uri old new = (target : SocketAddrV4) × Names uri target × Grows old new (target ∷ [])
