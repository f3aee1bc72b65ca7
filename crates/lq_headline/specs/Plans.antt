-- Which plan a run follows: the one that the text is.
use Rattle.std.specs.Prelude.{◌≡◌, Ok}
use Rattle.lq_model.specs.Capture.{Packets}
use Rattle.lq_model.specs.Plan.{Plan}
use Rattle.lq_plan.specs.Reading.{plan_of}
use Rattle.lq_headline.specs.Page.{Replay}
use Rattle.lq_headline.specs.Rules.{FollowsRules}

pub record FollowsPlan (run : Replay) : Type 0 where
  pub plan : Plan
  pub packets : Packets
  pub plan_is : plan_of run.plan_text ≡ Ok plan
  pub rules : FollowsRules run plan packets
