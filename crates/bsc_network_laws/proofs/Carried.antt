-- The laws on what comes down from hubs, on what nodes put, on who names itself, and on who is connected.
-- It serves clauses of functions of `laws`.
use Rattle.bsc_network.specs.Worlds.{Node}
use Rattle.std.proofs.Common.{List, Option, ap, ◌∙◌}
use Rattle.std.specs.List.{AllByRecursion}
use Rattle.bsc_network.specs.declared.timed_step.TimedStep.{TimedStep}
use Rattle.bsc_network.specs.Settings.{Added}
use Rattle.bsc_network.specs.Courses.{IsCourse}
use Rattle.bsc_network.specs.Networks.{world, deliveries}
use Rattle.bsc_network.proofs.Places.{all-mapped}
use Rattle.bsc_network_laws.specs.Deliveries.{Sends, IsFromItsSend}
use Rattle.bsc_network_laws.proofs.Sources.{IsFrom}
use Rattle.bsc_network_laws.proofs.BothSources.{sends_whole}
use Rattle.bsc_network_laws.specs.Carried.{DownIsTaken, TakenComesDown, PutBySend, PutsWhatWasSent}
use Rattle.bsc_network_laws.specs.Naming.{NamesAreRight}
use Rattle.bsc_network_laws.specs.Connecting.{ConnectionsAreOfDiallers, ConnectionsJoinedByTheirLinks, ConnectionsJoinByLinks, HistoriesAreLegal}
use Rattle.bsc_network_laws.specs.Passing.{OutboxesHaveWhatWasSent, WhatComesDownWasSent}
use Rattle.bsc_network_laws.proofs.ComingDown.{comes_down}
use Rattle.bsc_network_laws.proofs.Taken.{LinkFits}
use Rattle.bsc_network_laws.proofs.SentOnLinks.{LinkSent}
use Rattle.bsc_network_laws.specs.Delivering.{DeliveriesAreAll, delivered_in}
use Rattle.bsc_network_laws.specs.Peers.{PeersAreThere}
use Rattle.bsc_network_laws.proofs.AllDelivered.{logged}
use Rattle.bsc_network_laws.proofs.Casting.{Stays}
use Rattle.bsc_network_laws.proofs.Reached.{UpLaw}
use Rattle.bsc_network_laws.proofs.Running.{runs}
use Rattle.bsc_lemmas.proofs.Lists.{all-at}

pub taken_comes_down : TakenComesDown
taken_comes_down added steps course =
    let w = world added steps in
    all-mapped (LinkFits w.hubs) (DownIsTaken w) (λ link fits j h is at. (fits j h is at).down) w.links (runs added steps course).2.sides

pub puts_what_was_sent : PutsWhatWasSent
puts_what_was_sent added steps course =
    all-mapped (LinkSent (Sends steps)) (PutBySend steps) (λ link sent. record { up = sent.up; down = sent.down }) (world added steps).links (runs added steps course).2.sent

pub names_are_right : NamesAreRight
names_are_right added steps course = (runs added steps course).2.named.links

pub connections_are_of_diallers : ConnectionsAreOfDiallers
connections_are_of_diallers added steps course = (runs added steps course).2.diallers

pub connections_joined_by_their_links : ConnectionsJoinedByTheirLinks
connections_joined_by_their_links added steps course l j h link c here leads at conn = (runs added steps course).2.joins l j h link c (record { hub = at; link = here; leads = leads }) conn

pub connections_join_by_links : ConnectionsJoinByLinks
connections_join_by_links added steps course = (runs added steps course).2.by_links

pub histories_are_legal : HistoriesAreLegal
histories_are_legal added steps course = (runs added steps course).2.legally.legal

pub outboxes_have_what_was_sent : OutboxesHaveWhatWasSent
outboxes_have_what_was_sent added steps course = (runs added steps course).2.passes

pub what_comes_down_was_sent : WhatComesDownWasSent
what_comes_down_was_sent added steps course =
    let r = (runs added steps course).2 in
    comes_down (Sends steps) (world added steps) r.joins r.legally r.sides r.passes

pub peers_are_there : PeersAreThere
peers_are_there added steps course k slot n who here established =
    let r = (runs added steps course).2 in
    let stays : Stays n.made n.log = all-at (λ (m : Node). Stays m.made m.log) (world added steps).nodes k n r.casts.stays here in
    r.ends.peers k n slot who here (stays.knit.peers slot who established)

pub deliveries_are_all : DeliveriesAreAll
deliveries_are_all added steps k n course here = (runs added steps course).2.every.each k ∙ ap (λ (o : Option Node). delivered_in (logged o)) here

-- Each delivery comes from the Send at its place.
pub each_from_its_send : UpLaw → (added : List Added) (steps : List TimedStep) → IsCourse added steps
    → AllByRecursion (IsFromItsSend steps (world added steps)) (deliveries added steps)
each_from_its_send law added steps course =
    all-mapped (IsFrom (Sends steps) (world added steps)) (IsFromItsSend steps (world added steps)) (λ d from. record { sender = from.0; dest = from.1; sends = from.2; came = from.3 })
    (deliveries added steps)
    ((runs added steps course).2.from law (sends_whole steps course.made_all))
