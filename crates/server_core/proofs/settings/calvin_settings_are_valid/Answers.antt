-- The laws are lemmas.
use Rattle.server_core.proofs.configured.CalvinSettings.{valid, forms, limits}
use Rattle.server_core.proofs.settings.calvin_settings_are_valid.Goals as goal

pub returns : goal.returns
returns c = record {
  valid = λ c w config v. valid c w v config;
  forms = forms;
  limits = λ c w config v. limits c w v config;
}
