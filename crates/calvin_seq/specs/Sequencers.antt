-- Which node of which run a sequencer is.
use Rattle.server_core.specs.declared.role.Role.{Role}
use Rattle.calvin_seq.specs.declared.sequencer.Sequencer.{Sequencer}

abbrev pub role_in : Sequencer → Role
role_in s = s.role
