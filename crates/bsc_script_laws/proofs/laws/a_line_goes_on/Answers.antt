use Rattle.bsc_script_laws.proofs.OneHub.{after_rests, line_rests}
use Rattle.bsc_script_laws.proofs.Looking.{behind_of, looks_of}
use Rattle.bsc_script_laws.proofs.Aside.{line_aside}
use Rattle.bsc_script_laws.proofs.Written.{line_written}
use Rattle.bsc_script_laws.proofs.Lasting.{line_ends}
use Rattle.bsc_script_laws.proofs.laws.a_line_goes_on.Goals as goal

pub returns : goal.returns
returns c = λ about lines s line o so_far e.
    let h = after_rests about lines s so_far in
    let after = line_rests s h line o e in
    record {
      behind = behind_of s h.sound.apart line o e;
      looks = looks_of s h.sound.apart line o e;
      closed = λ name own closed. line_aside name s line o own closed e;
      last = λ name. line_ends name o.state.about s h.sound.apart line o after.sound.legal e;
      frames = line_written s h.sound.apart line o e;
    }
