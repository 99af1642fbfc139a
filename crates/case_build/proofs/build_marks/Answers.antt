-- By the record's kind. `Fit` says that the number of `pmu` is a bus, so `with` gives the word that `hold` names.
use Rattle.busset.proofs.Holding.{hold-is}
use Rattle.case_build.proofs.build_marks.Goals as goal

pub returns-in-Pmu : goal.returns-in-Pmu
returns-in-Pmu c =
    let e = c.in-Pmu.is in
    rw e (cc (hold-is _ _ (rw e at c.requires).some c.with.ensures))
