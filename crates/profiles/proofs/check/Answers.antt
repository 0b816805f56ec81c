use Rattle.registry.specs.Call.{called}
use Rattle.profiles.specs.Check.{check_of}
use Rattle.profiles.proofs.Known.{stack_lists, balance_lists, meter_lists, no_profile}
use Rattle.profiles.proofs.check.Goals as goal

pub returns-in-1 : goal.returns-in-1
unfolding check_of called
returns-in-1 c =
    rw (← c.require_sound_state.ensures, c.in_ok-require_sound_state.was, ← c.require_sound_input.ensures, c.in_ok-require_sound_input.was, c.in-1.is, stack_lists) c.check.ensures

pub returns-in-2 : goal.returns-in-2
unfolding check_of called
returns-in-2 c =
    rw (← c.require_sound_state.ensures, c.in_ok-require_sound_state.was, ← c.require_sound_input.ensures, c.in_ok-require_sound_input.was, c.in-2.is, balance_lists) c.check-in-2.ensures

pub returns-in-3 : goal.returns-in-3
unfolding check_of called
returns-in-3 c =
    rw (← c.require_sound_state.ensures, c.in_ok-require_sound_state.was, ← c.require_sound_input.ensures, c.in_ok-require_sound_input.was, c.in-3.is, meter_lists) c.check-in-3.ensures

pub returns-in_default : goal.returns-in_default
unfolding check_of called
returns-in_default c =
    rw (← c.require_sound_state.ensures, c.in_ok-require_sound_state.was, ← c.require_sound_input.ensures, c.in_ok-require_sound_input.was, no_profile _ _ c.in_default.in_default-own.rest.0.0.1 c.in_default.in_default-own.rest.0.1 c.in_default.in_default-own.rest.1)
