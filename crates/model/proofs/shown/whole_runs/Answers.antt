use Rattle.model.proofs.Kernels.{routed_means}
use Rattle.model.proofs.Turns.{none_lost_none_doubled}
use Rattle.model.proofs.Runs.{alike_answers, those_ahead_undisturbed, root_apart, promises_kept}
use Rattle.model.proofs.Determined.{pump_counts, take_determined, pump_determined}
use Rattle.model.proofs.Pump.{one_by_one}
use Rattle.model.proofs.Stages.{raise_through, mask_through, take_through, end_through}
use Rattle.model.proofs.Always.{every_list_runs}
use Rattle.model.proofs.Examples.{examples_hold}
use Rattle.model.proofs.shown.whole_runs.Goals as goal

pub returns : goal.returns
returns c =
    record {
      alike = alike_answers;
      turns = none_lost_none_doubled;
      ahead = those_ahead_undisturbed;
      apart = root_apart;
      counts = pump_counts;
      take = take_determined;
      pump = pump_determined;
      passes = one_by_one;
      routed = routed_means;
      stage = (raise_through, mask_through, take_through, end_through);
      runs = every_list_runs;
      played = examples_hold;
      whole = promises_kept;
    }
