use Rattle.std.proofs.Common.{List, ℕ, All, ◌++◌, sym, ap, ◌∙◌, subst, string_bytes}
use Rattle.scope_sets.specs.Scopes.{IsPrintable}
use Rattle.task_types.specs.Choices.{priority_name}
use Rattle.call_rules.proofs.PolicyLemmas.{identifier_printable}
use Rattle.call_rules.proofs.PriorityLemmas.{name_printable, five_pieces, queue_printable}
use Rattle.call_rules.proofs.create.create_name.Goals as goal

pub returns-clause-name : goal.returns-clause-name
returns-clause-name c =
    five_pieces (priority_name c.args.priority) c.args.queue.now.provisioner_id c.args.queue.now.worker_type _ _ _ _ _
    (c.in_ok-name.ensures.ok ∙ c.name.ensures) c.in_ok-push_str.ensures.bytes
    (c.in_ok-push_str-2.ensures.bytes ∙ ap (λ (t : List ℕ). string_bytes c.push_str.new.self ++ t) c.as_str.ensures.value)
    c.in_ok-push_str-3.ensures.bytes (c.in_ok-push_str-4.ensures.bytes ∙ ap (λ (t : List ℕ). string_bytes c.push_str-3.new.self ++ t) c.as_str-2.ensures.value)

pub returns-clause-printable : goal.returns-clause-printable
returns-clause-printable c =
    subst (All IsPrintable) (sym (returns-clause-name c))
    (queue_printable (priority_name c.args.priority) c.args.queue.now.provisioner_id c.args.queue.now.worker_type (name_printable c.args.priority)
    (identifier_printable _ c.as_str.ensures.form) (identifier_printable _ c.as_str-2.ensures.form))
