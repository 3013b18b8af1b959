use Rattle.farm_laws.proofs.InTimeLemmas.{reports-in-time, recorded-in-time}
use Rattle.farm_laws.proofs.machine.a_report_ends_a_run_in_time.Goals as goal

pub returns-clause-since : goal.returns-clause-since
returns-clause-since c = reports-in-time

pub returns-clause-recorded : goal.returns-clause-recorded
returns-clause-recorded c = recorded-in-time
