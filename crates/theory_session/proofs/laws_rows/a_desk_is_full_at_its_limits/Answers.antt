use Rattle.theory_session.proofs.RowLaws.{models_fit, no_model_fits, versions_fit, no_version_fits}
use Rattle.theory_session.proofs.laws_rows.a_desk_is_full_at_its_limits.Goals as goal

pub returns-clause-models : goal.returns-clause-models
returns-clause-models g c = models_fit g.D.Meant.meanings

pub returns-clause-no_more_models : goal.returns-clause-no_more_models
returns-clause-no_more_models g c = no_model_fits g.D.Meant.meanings

pub returns-clause-versions : goal.returns-clause-versions
returns-clause-versions g c = versions_fit g.D.Meant.meanings

pub returns-clause-no_more_versions : goal.returns-clause-no_more_versions
returns-clause-no_more_versions g c = no_version_fits g.D.Meant.meanings
