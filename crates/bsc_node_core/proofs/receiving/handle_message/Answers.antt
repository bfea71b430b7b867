use Rattle.std.proofs.Common.{sym, refl}
use Rattle.std.proofs.lemmas.Result.{on_ok_weaker}
use Rattle.bsc_frame.specs.declared.body.Body.TheVariants.{BvlcResult, Npdu, AddressResolution, AddressResolutionAck, Advertisement, AdvertisementSolicitation}
use Rattle.bsc_node_core.specs.Resolving.{asked_by}
use Rattle.bsc_node_core.proofs.Taking.{question-stands, both-taken-up, state-taken-up, other-taken-up}
use Rattle.bsc_node_core.proofs.receiving.handle_message.Goals as goal

pub returns-in-BvlcResult-clause-goes : goal.returns-in-BvlcResult-clause-goes
returns-in-BvlcResult-clause-goes c = on_ok_weaker c.take_answer.result
    (λ g b L l n h.
    both-taken-up b _ _ _ L c.args.name c.args.message (BvlcResult c.in-BvlcResult.answer) c.in-BvlcResult.is
    (g b c.args.state.now L c.args.name c.args.message refl (c.sender-from.ensures (asked_by L b) c.args.out.now L c.args.message n refl h.state) h))
    c.take_answer.ensures.goes

pub returns-in-Npdu-clause-goes : goal.returns-in-Npdu-clause-goes
returns-in-Npdu-clause-goes c = on_ok_weaker c.deliver.result
    (λ g b L l n h.
    state-taken-up b c.args.out.now _ c.args.state.now c.args.state.now c.args.resolve.now L c.args.name c.args.message (Npdu c.in-Npdu.npdu) c.in-Npdu.is h
    (g (asked_by L b) c.args.state.now L c.args.name c.args.message (c.sender-from.ensures (asked_by L b) c.args.out.now L c.args.message n refl h.state)
    (sym c.is_broadcast-for_all.ensures) refl h.state))
    c.deliver.ensures

pub returns-in-AddressResolution-clause-goes : goal.returns-in-AddressResolution-clause-goes
returns-in-AddressResolution-clause-goes c = on_ok_weaker c.answer_question.result
    (λ g b L l n h.
    state-taken-up b c.args.out.now _ c.args.state.now _ c.args.resolve.now L c.args.name c.args.message AddressResolution c.in-AddressResolution.is h
    (question-stands (asked_by L b) _ _ L c.args.name c.args.message c.args.at.now.limits.now l
    (g c.args.message refl (sym (c.answer_dest-dest.ensures c.args.message refl)) (sym c.is_broadcast-for_all.ensures) (asked_by L b) L h.state)))
    c.answer_question.ensures

pub returns-in-AddressResolutionAck-clause-goes : goal.returns-in-AddressResolutionAck-clause-goes
returns-in-AddressResolutionAck-clause-goes c = on_ok_weaker c.learn_from.result
    (λ g b L l n h.
    both-taken-up b _ _ _ L c.args.name c.args.message (AddressResolutionAck c.in-AddressResolutionAck.uris) c.in-AddressResolutionAck.is
    (g b c.args.state.now L c.args.name c.args.message refl (c.sender-from.ensures (asked_by L b) c.args.out.now L c.args.message n refl h.state) h))
    c.learn_from.ensures.goes

pub returns-in-Advertisement-clause-goes : goal.returns-in-Advertisement-clause-goes
returns-in-Advertisement-clause-goes c = on_ok_weaker c.tell_advert.result
    (λ g b L l n h.
    state-taken-up b c.args.out.now _ c.args.state.now c.args.state.now c.args.resolve.now L c.args.name c.args.message (Advertisement c.in-Advertisement.told) c.in-Advertisement.is h
    (g (asked_by L b) c.args.state.now L c.args.name c.args.message (c.sender-from.ensures (asked_by L b) c.args.out.now L c.args.message n refl h.state) h.state))
    c.tell_advert.ensures

pub returns-in-AdvertisementSolicitation-clause-goes : goal.returns-in-AdvertisementSolicitation-clause-goes
returns-in-AdvertisementSolicitation-clause-goes c = on_ok_weaker c.advertise.result
    (λ g b L l n h.
    state-taken-up b c.args.out.now _ c.args.state.now _ c.args.resolve.now L c.args.name c.args.message AdvertisementSolicitation c.in-AdvertisementSolicitation.is h
    (g (asked_by L b) L c.args.message l (sym (c.answer_dest-dest.ensures c.args.message refl)) h.state))
    c.advertise.ensures

pub returns-clause-goes : goal.returns-clause-goes
returns-clause-goes c = λ b L l n h. other-taken-up b c.args.out.now c.args.state.now c.args.resolve.now L c.args.name c.args.message c.in-ConnectRequest.is h
