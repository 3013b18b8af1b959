use Rattle.api_routes.proofs.bodies.work_of.Goals as goal

pub returns-in_default : goal.returns-in_default
returns-in_default c = λ work says.
    let h = c.in_default.ensures in
    h work.tasks work.worker_group work.worker_id says.is
