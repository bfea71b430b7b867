-- What each NPDU is of that a node put on a link to another node; and that what changes links, or puts something on them, keeps it.
-- It serves clauses of functions of `laws`.
use Rattle.std.proofs.Common.{◌≡◌, ◌<◌, ◌⊎◌, inl, inr, ℕ, true, List, [], ◌∷◌, ◌++◌, length, Some, None, refl, ap, sym, subst, ◌∙◌, append_assoc}
use Rattle.std.specs.Prelude.{◌^◌, filter_map, slice_get}
use Rattle.std.specs.List.{AllByRecursion}
use Rattle.bsc_octets.specs.declared.identity.Identity.{Identity}
use Rattle.bsc_octets.specs.declared.vmac.Vmac.{Vmac}
use Rattle.bsc_frame.specs.declared.body.Body.TheVariants.{Npdu}
use Rattle.bsc_node.specs.declared.link_name.LinkName.TheVariants.{Direct}
use Rattle.bsc_node.specs.declared.node_event.NodeEvent.TheVariants.{Send}
use Rattle.bsc_node.specs.declared.timed_event.TimedEvent.{TimedEvent}
use Rattle.bsc_node.specs.Messages.{message_octets}
use Rattle.bsc_node.specs.Logs.{Line, came, Log}
use Rattle.bsc_network.specs.declared.way.Way.{Way}
use Rattle.bsc_network.specs.declared.way.Way.TheVariants.{Up, Down}
use Rattle.bsc_network.specs.declared.target.Target.{Target}
use Rattle.bsc_network.specs.declared.target.Target.TheVariants.{Hub as ToHub, Node as ToNode}
use Rattle.bsc_network.specs.declared.parcel.Parcel.{Parcel}
use Rattle.bsc_network.specs.declared.parcel.Content.{Content}
use Rattle.bsc_network.specs.Traffic.{Traffic, without_front, and_then}
use Rattle.bsc_network.specs.Worlds.{World, Hub, HubSide, Node, Link, traffic, node_at, link_at}
use Rattle.bsc_network.specs.Changes.{with_link, with_side, with_traffic, puts_at}
use Rattle.bsc_network.specs.Outboxes.{Frame}
use Rattle.bsc_network.specs.NodeSides.{other_way}
use Rattle.bsc_network.specs.Dialling.{new_link}
use Rattle.bsc_network.proofs.Places.{got-changed, got-last_of, all-mapped}
use Rattle.bsc_network_laws.specs.Ends.{receiver, putter, message_of, messages}
use Rattle.bsc_network_laws.specs.Carrying.{Sendings, npdus}
use Rattle.bsc_network_laws.specs.Deliveries.{IsAmong, SentOver}
use Rattle.bsc_network_laws.specs.Naming.{Cast, identity_in}
use Rattle.bsc_network_laws.proofs.Moves.{IsSide}
use Rattle.bsc_network_laws.proofs.SideFits.{npdus-more}
use Rattle.bsc_network_laws.proofs.Lasting.{Longer, NodeGrows, Lasts, lasts-longer, lasts-puts}
use Rattle.bsc_network_laws.proofs.Lasting as Lasting
use Rattle.bsc_lemmas.proofs.Lists.{all_append as all-joined, got-left}
use Rattle.bsc_network.proofs.Common.{not_both}
use Rattle.std.proofs.lemmas.Option.{same_Some as some_same}

-- ---- what is kept

-- Node k put the frame on this way of the link for a Send to node j, with whom it had the link as an established slot then.
pub record IsSentDirectly (S : Sendings) (cast : Cast) (w : World) (l : ℕ) (way : Way) (k j : ℕ) (f : Frame) : Type 0 where
  pub dest : Vmac
  pub npdu : List ℕ
  pub id : ℕ
  pub who : Identity
  pub from : Node
  pub sends : S f.sent_at k dest npdu
  pub octets : f.octets ≡ message_octets id None (Npdu npdu)
  pub small : id < 2 ^ 16
  pub at_sender : node_at w k ≡ Some from
  pub sent : SentOver from dest npdu l (other_way way) who
  pub is : identity_in cast (ToNode j) ≡ Some who
  pub destination : dest ≡ who.vmac

-- By this way of the link what node k puts comes to node j.
pub record IsDirect (w : World) (l : ℕ) (x : Link) (way : Way) (k j : ℕ) : Type 0 where
  pub link : link_at w l ≡ Some x
  pub puts : putter way x ≡ ToNode k
  pub hears : receiver way x ≡ ToNode j

abbrev pub AllDirect : Sendings → Cast → World → Type 0
AllDirect S cast w = (l : ℕ) (x : Link) (way : Way) (k j : ℕ) → IsDirect w l x way k j → AllByRecursion (IsSentDirectly S cast w l way k j) (npdus (messages (traffic way x)))

-- ---- what was sent so stays so

pub among-longer : {A : Type 0} (xs ys : List A) (x : A) → Longer xs ys → IsAmong xs x → IsAmong ys x
among-longer xs ys x g (place, here) = (place, ap (λ (l : List _). slice_get l place) g.is ∙ got-left xs g.more place x here)

-- An event stays in the log of a node behind what stood before it.
pub log-grows : (n m : Node) (before : Log) (e : TimedEvent) (later : List Line) (g : NodeGrows n m) → n.log ≡ before ++ came e ∷ later → m.log ≡ before ++ came e ∷ (later ++ g.log.more)
log-grows n m before e later g is = g.log.is ∙ ap (λ (L : Log). L ++ g.log.more) is ∙ append_assoc before (came e ∷ later) g.log.more

pub sent_over-grows : (n m : Node) (dest : Vmac) (npdu : List ℕ) (l : ℕ) (way : Way) (who : Identity) → NodeGrows n m → SentOver n dest npdu l way who → SentOver m dest npdu l way who
sent_over-grows n m dest npdu l way who g s = record {
  slot = s.slot;
  held = among-longer n.holds m.holds (record { name = Direct s.slot; link = l; hears = way }) g.holds s.held;
  before = s.before;
  now = s.now;
  later = s.later ++ g.log.more;
  log = log-grows n m s.before (record { now = s.now; event = Send dest npdu }) s.later g s.log;
  established = s.established;
}

pub sent-lasts : (S : Sendings) (cast : Cast) (u v : World) → Lasts u v → (l : ℕ) (way : Way) (k j : ℕ) (f : Frame) → IsSentDirectly S cast u l way k j f → IsSentDirectly S cast v l way k j f
sent-lasts S cast u v g l way k j f s =
    let m = g.nodes.at k s.from s.at_sender in
    record {
      dest = s.dest;
      npdu = s.npdu;
      id = s.id;
      who = s.who;
      from = m.0;
      sends = s.sends;
      octets = s.octets;
      small = s.small;
      at_sender = m.1;
      sent = sent_over-grows s.from m.0 s.dest s.npdu l (other_way way) s.who m.2 s.sent;
      is = s.is;
      destination = s.destination;
    }

all-last : (S : Sendings) (cast : Cast) (u v : World) → Lasts u v → (l : ℕ) (way : Way) (k j : ℕ) (fs : List Frame) → AllByRecursion (IsSentDirectly S cast u l way k j) fs
    → AllByRecursion (IsSentDirectly S cast v l way k j) fs
all-last S cast u v g l way k j fs all = all-mapped (IsSentDirectly S cast u l way k j) (IsSentDirectly S cast v l way k j) (sent-lasts S cast u v g l way k j) fs all

-- ---- links are changed, and nothing is put

pub direct-same : (S : Sendings) (cast : Cast) (u v : World) → Lasts u v → v.links ≡ u.links → AllDirect S cast u → AllDirect S cast v
direct-same S cast u v g same all l x way k j d =
    all-last S cast u v g l way k j (npdus (messages (traffic way x))) (all l x way k j (record { link = ap (λ (ls : List Link). slice_get ls l) (sym same) ∙ d.link; puts = d.puts; hears = d.hears }))

-- a change that keeps the ends of a link, and all that was put on it
pub record Spares (f : Link → Link) : Type 0 where
  pub puts : (way : Way) (x : Link) → putter way (f x) ≡ putter way x
  pub hears : (way : Way) (x : Link) → receiver way (f x) ≡ receiver way x
  pub put : (way : Way) (x : Link) → (traffic way (f x)).put ≡ (traffic way x).put

pub direct-link : (S : Sendings) (cast : Cast) (w : World) (i : ℕ) (f : Link → Link) → Spares f → Lasts w (with_link i f w) → AllDirect S cast w → AllDirect S cast (with_link i f w)
direct-link S cast w i f spares g all l y way k j d = by (got-changed i f w.links l y d.link)
  where
    by : (slice_get w.links l ≡ Some y) ⊎ ((x : Link) × (i ≡ l) × (slice_get w.links l ≡ Some x) × (y ≡ f x))
        → AllByRecursion (IsSentDirectly S cast (with_link i f w) l way k j) (npdus (messages (traffic way y)))
    by (inl at) = all-last S cast w (with_link i f w) g l way k j (npdus (messages (traffic way y))) (all l y way k j (record { link = at; puts = d.puts; hears = d.hears }))
    by (inr (x, same, at, is)) =
        subst (λ (ps : List Parcel). AllByRecursion (IsSentDirectly S cast (with_link i f w) l way k j) (npdus (filter_map message_of ps)))
        (sym (ap (λ (z : Link). (traffic way z).put) is ∙ spares.put way x))
        (all-last S cast w (with_link i f w) g l way k j (npdus (messages (traffic way x)))
        (all l x way k j (record {
          link = at;
          puts = sym (ap (putter way) is ∙ spares.puts way x) ∙ d.puts;
          hears = sym (ap (receiver way) is ∙ spares.hears way x) ∙ d.hears;
        })))

spares-side : (f : HubSide → HubSide) → Spares (λ link. record link { side = f link.side })
spares-side f = record { puts = puts; hears = hears; put = put }
  where
    puts : (way : Way) (x : Link) → putter way (record x { side = f x.side }) ≡ putter way x
    puts Up x = refl
    puts Down x = refl

    hears : (way : Way) (x : Link) → receiver way (record x { side = f x.side }) ≡ receiver way x
    hears Up x = refl
    hears Down x = refl

    put : (way : Way) (x : Link) → (traffic way (record x { side = f x.side })).put ≡ (traffic way x).put
    put Up x = refl
    put Down x = refl

pub spares-lost : Spares (λ link. record link { is_lost = true })
spares-lost = record { puts = puts; hears = hears; put = put }
  where
    puts : (way : Way) (x : Link) → putter way (record x { is_lost = true }) ≡ putter way x
    puts Up x = refl
    puts Down x = refl

    hears : (way : Way) (x : Link) → receiver way (record x { is_lost = true }) ≡ receiver way x
    hears Up x = refl
    hears Down x = refl

    put : (way : Way) (x : Link) → (traffic way (record x { is_lost = true })).put ≡ (traffic way x).put
    put Up x = refl
    put Down x = refl

pub spares-front : (on : Way) → Spares (with_traffic on without_front)
spares-front on = record { puts = puts on; hears = hears on; put = put on }
  where
    puts : (on way : Way) (x : Link) → putter way (with_traffic on without_front x) ≡ putter way x
    puts Up Up x = refl
    puts Up Down x = refl
    puts Down Up x = refl
    puts Down Down x = refl

    hears : (on way : Way) (x : Link) → receiver way (with_traffic on without_front x) ≡ receiver way x
    hears Up Up x = refl
    hears Up Down x = refl
    hears Down Up x = refl
    hears Down Down x = refl

    put : (on way : Way) (x : Link) → (traffic way (with_traffic on without_front x)).put ≡ (traffic way x).put
    put Up Up x = refl
    put Up Down x = refl
    put Down Up x = refl
    put Down Down x = refl

pub direct-side : (S : Sendings) (cast : Cast) (w : World) (l : ℕ) (f : HubSide → HubSide) → AllDirect S cast w → AllDirect S cast (with_side l f w)
direct-side S cast w l f = direct-link S cast w l _ (spares-side f) (Lasting.lasts-side w l f)

-- ---- something is put

puts-with : (on way : Way) (f : Traffic → Traffic) (x : Link) → putter way (with_traffic on f x) ≡ putter way x
puts-with Up Up f x = refl
puts-with Up Down f x = refl
puts-with Down Up f x = refl
puts-with Down Down f x = refl

hears-with : (on way : Way) (f : Traffic → Traffic) (x : Link) → receiver way (with_traffic on f x) ≡ receiver way x
hears-with Up Up f x = refl
hears-with Up Down f x = refl
hears-with Down Up f x = refl
hears-with Down Down f x = refl

-- what is on a way once something was put on one of the two
put-on : (P : Frame → Type 0) (on way : Way) (p : Parcel) (x : Link) → AllByRecursion P (npdus (messages (traffic way x))) → (on ≡ way → AllByRecursion P (npdus (filter_map message_of (p ∷ []))))
    → AllByRecursion P (npdus (messages (traffic way (with_traffic on (and_then p) x))))
put-on P Up Up p x all fresh = subst (AllByRecursion P) (sym (npdus-more p x.up)) (all-joined P (npdus (messages x.up)) (npdus (filter_map message_of (p ∷ []))) all (fresh refl))
put-on P Down Down p x all fresh = subst (AllByRecursion P) (sym (npdus-more p x.down)) (all-joined P (npdus (messages x.down)) (npdus (filter_map message_of (p ∷ []))) all (fresh refl))
put-on P Up Down p x all fresh = all
put-on P Down Up p x all fresh = all

-- what is put is so, wherever it gets to a node
abbrev pub FreshOn : Sendings → Cast → World → ℕ → Way → ℕ → Content → Type 0
FreshOn S cast u l way place content =
    (x : Link) (k j : ℕ) → IsDirect u l x way k j
    → AllByRecursion (IsSentDirectly S cast (puts_at l way place content u) l way k j) (npdus (filter_map message_of (record { content = content; sent_at = place } ∷ [])))

pub direct-puts : (S : Sendings) (cast : Cast) (u : World) (i place : ℕ) (on : Way) (content : Content) → FreshOn S cast u i on place content → AllDirect S cast u
    → AllDirect S cast (puts_at i on place content u)
direct-puts S cast u i place on content fresh all l y way k j d = by (got-changed i (with_traffic on (and_then p)) u.links l y d.link)
  where
    p : Parcel
    p = record { content = content; sent_at = place }

    v : World
    v = puts_at i on place content u

    g : Lasts u v
    g = lasts-puts u i on place content

    new : (x : Link) → i ≡ l → IsDirect u l x way k j → on ≡ way → AllByRecursion (IsSentDirectly S cast v l way k j) (npdus (filter_map message_of (p ∷ [])))
    new x same direct one =
        subst (λ (m : ℕ). AllByRecursion (IsSentDirectly S cast v m way k j) (npdus (filter_map message_of (p ∷ [])))) same
        (subst (λ (a : Way). AllByRecursion (IsSentDirectly S cast v i a k j) (npdus (filter_map message_of (p ∷ [])))) one
        (fresh x k j (subst (λ (m : ℕ). IsDirect u m x on k j) (sym same) (subst (λ (a : Way). IsDirect u l x a k j) (sym one) direct))))

    by : (slice_get u.links l ≡ Some y) ⊎ ((x : Link) × (i ≡ l) × (slice_get u.links l ≡ Some x) × (y ≡ with_traffic on (and_then p) x))
        → AllByRecursion (IsSentDirectly S cast v l way k j) (npdus (messages (traffic way y)))
    by (inl at) = all-last S cast u v g l way k j (npdus (messages (traffic way y))) (all l y way k j (record { link = at; puts = d.puts; hears = d.hears }))
    by (inr (x, same, at, is)) =
        let direct : IsDirect u l x way k j = record {
          link = at;
          puts = sym (ap (putter way) is ∙ puts-with on way (and_then p) x) ∙ d.puts;
          hears = sym (ap (receiver way) is ∙ hears-with on way (and_then p) x) ∙ d.hears;
        } in
        subst (λ (z : Link). AllByRecursion (IsSentDirectly S cast v l way k j) (npdus (messages (traffic way z)))) (sym is)
        (put-on (IsSentDirectly S cast v l way k j) on way p x (all-last S cast u v g l way k j (npdus (messages (traffic way x))) (all l x way k j direct)) (new x same direct))

pub direct-hub : (S : Sendings) (cast : Cast) (u : World) (l j place : ℕ) (h : Hub) (k : Link) (content : Content) → IsSide u l j h k → AllDirect S cast u
    → AllDirect S cast (puts_at l Down place content u)
direct-hub S cast u l j place h k content side =
    direct-puts S cast u l place Down content (λ x from to d. absurd (not_both from j x.to d.puts (ap (λ (y : Link). y.to) (some_same x k (sym d.link ∙ side.link)) ∙ side.leads)))

-- ---- a link more

none-new : (S : Sendings) (cast : Cast) (v u : World) (i : ℕ) (t : Target) (l : ℕ) (way : Way) (k j : ℕ)
    → AllByRecursion (IsSentDirectly S cast v l way k j) (npdus (messages (traffic way (new_link u i t))))
none-new S cast v u i (ToHub a) l Up k j = tt
none-new S cast v u i (ToHub a) l Down k j = tt
none-new S cast v u i (ToNode a) l Up k j = tt
none-new S cast v u i (ToNode a) l Down k j = tt

pub direct-longer : (S : Sendings) (cast : Cast) (u : World) (i : ℕ) (t : Target) → AllDirect S cast u → AllDirect S cast (record u { links = u.links ++ new_link u i t ∷ [] })
direct-longer S cast u i t all l y way k j d = by (got-last_of u.links (new_link u i t) l y d.link)
  where
    v : World
    v = record u { links = u.links ++ new_link u i t ∷ [] }

    by : (slice_get u.links l ≡ Some y) ⊎ ((l ≡ length u.links) × (y ≡ new_link u i t)) → AllByRecursion (IsSentDirectly S cast v l way k j) (npdus (messages (traffic way y)))
    by (inl at) = all-last S cast u v (lasts-longer u (new_link u i t)) l way k j (npdus (messages (traffic way y))) (all l y way k j (record { link = at; puts = d.puts; hears = d.hears }))
    by (inr (last, is)) = subst (λ (z : Link). AllByRecursion (IsSentDirectly S cast v l way k j) (npdus (messages (traffic way z)))) (sym is) (none-new S cast v u i t l way k j)
