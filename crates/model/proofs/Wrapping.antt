-- None is wrapped once for each silent Some that waits for it.
-- Assumes nothing.
use Rattle.std.proofs.Common.{◌++◌, ap, ◌∙◌}
use Rattle.model.specs.Refusals.{unless}
use Rattle.model.specs.Requests.{none, put}
use Rattle.model.specs.Spellings.{none_bytes, lead}
use Rattle.model.specs.Places.{admission}
use Rattle.model.specs.Steps.{effect}
use Rattle.model.specs.Runs.{reached, accepted}
use Rattle.model.specs.Laws.{NoneIsWrapped}
use Rattle.model.proofs.Testing.{passes}
use Rattle.model.proofs.Stepping.{admitted}
use Rattle.model.proofs.Following.{following, goes_beside}

pub none_is_wrapped : NoneIsWrapped
none_is_wrapped run t e =
    let p = reached run in
    let a = admitted p t (passes (admission p t) _ e).0 in
    let m = goes_beside p run.settings (accepted run) (following run) a.is_open in (
      m.0,
      m.1,
      ap (λ o. (unless o (effect p (put t none)) (λ x. p)).text) e ∙ ap (λ n. p.text ++ (lead p ++ none_bytes n)) (m.2.waits a.place),
    )
