-- The ranges of a configuration.
use Rattle.std.specs.Prelude.{◌≤◌}
use Rattle.deneva_base.specs.declared.config.Config.{Config}

-- 1 to 16 partitions, 1 to 8 attempts, and 1 to 64 home transactions that a node has open
pub record IsConfig (c : Config) : Type 0 where
  pub some_parts : 1 ≤ c.parts
  pub few_parts : c.parts ≤ 16
  pub some_attempts : 1 ≤ c.attempts
  pub few_attempts : c.attempts ≤ 8
  pub some_open : 1 ≤ c.limit
  pub few_open : c.limit ≤ 64
