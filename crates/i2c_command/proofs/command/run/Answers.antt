-- `run` ends as the call of `top` does.
use Rattle.i2c_command.proofs.command.run.Goals as goal

pub returns : goal.returns
returns g c =
    record {
      ended = c.top.ensures.ended;
      success = c.top.ensures.success;
      checked = c.top.ensures.checked;
      generated = c.top.ensures.generated;
      verified = c.top.ensures.verified;
      translated = c.top.ensures.translated;
      cached = c.top.ensures.cached;
      cleared = c.top.ensures.cleared;
    }
