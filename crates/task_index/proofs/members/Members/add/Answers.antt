use Rattle.std.proofs.Common.{◌≡◌, ℕ, List, [], ◌∷◌, ◌++◌, length, ap, sym, ◌∙◌, subst}
use Rattle.task_types.specs.declared.task_def.TaskDef.{TaskDef}
use Rattle.task_groups.specs.Members.{TaskGroup, TaskGroups, joined}
use Rattle.task_index.specs.Members.{AreMembers}
use Rattle.task_index.proofs.MemberLemmas.{member-last, member-joined}
use Rattle.task_index.proofs.members.Members.add.Goals as goal

pub join-requires-clause-last : goal.join-requires-clause-last
join-requires-clause-last c =
    let rows = c.args.rows.now in
    let same : c.self.inside.groups.groups ≡ c.args.self.now.groups = ap (λ (g : TaskGroups). g.groups) c.self.view_is in
    member-last c.self.inside.groups.groups rows c.definition.result.now.task_group_id (subst (λ (gs : List TaskGroup). AreMembers gs rows) (sym same) c.requires)

pub returns-clause-added : goal.returns-clause-added
returns-clause-added c =
    let rows = c.args.rows.now in
    let row = c.args.row.now in
    let n : ℕ = length rows in
    let scheduler = c.as_str-scheduler.result.now in
    let same : c.self.inside.groups.groups ≡ c.args.self.now.groups = ap (λ (g : TaskGroups). g.groups) c.self.view_is in
    let came : c.join.new.self.groups ≡ joined row.definition.task_group_id scheduler n c.args.self.now.groups =
    ap (λ (g : TaskGroups). g.groups) c.join.ensures
    ∙ (ap (λ (d : TaskDef). joined d.task_group_id scheduler n c.self.inside.groups.groups) c.definition.ensures
    ∙ ap (joined row.definition.task_group_id scheduler n) same) in
    λ _. subst (λ (gs : List TaskGroup). AreMembers gs (rows ++ row ∷ [])) (sym came) (member-joined c.args.self.now.groups rows row scheduler c.requires)
