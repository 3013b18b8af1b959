use Rattle.std.proofs.Common.{◌≡◌, ℕ, List, true, false, arith, length, codes, string_bytes, sym, subst, ◌∙◌}
use Rattle.std.specs.Str.{bytes_eq}
use Rattle.std.proofs.lemmas.Slice.Eq.{bytes_eq-Decides}
use Rattle.console_commands.proofs.RenderingLemmas.{are_keys, are_two, both_there}
use Rattle.console_commands.proofs.rendering.both_in.Goals.{else-eq-via-then-eq+else-eq-2, else-eq-via-else-eq}
use Rattle.console_commands.proofs.rendering.both_in.Goals as goal

pub returns-then-len-ne2 : goal.returns-then-len-ne2
returns-then-len-ne2 c = λ context template is.
    let two = are_two c.args.members.now.entries context template is in
    omega (arith, two, c.len.ensures.len, c.if-len-ne2.true)

pub returns-then-eq-2 : goal.returns-then-eq-2
returns-then-eq-2 c =
    let two : length c.args.members.now.entries ≡ 2 = omega (arith, c.len.ensures.len, c.if-len-ne2.false) in
    let first : string_bytes c.in_ok-first.first.now ≡ codes "context" =
    (bytes_eq-Decides (string_bytes c.in_ok-first.first.now) (codes "context")).0
    (subst (λ (t : List ℕ). bytes_eq t (codes "context") ≡ true) c.as_str.ensures.value (sym c.eq.ensures ∙ c.if-eq.true)) in
    let last : string_bytes c.in_ok-last.last.now ≡ codes "template" =
    (bytes_eq-Decides (string_bytes c.in_ok-last.last.now) (codes "template")).0
    (subst (λ (t : List ℕ). bytes_eq t (codes "template") ≡ true) c.as_str-then-eq.ensures.value (sym c.eq-then-eq.ensures ∙ c.if-eq-2.true)) in
    both_there c.args.members.now.entries c.in_ok-first.first.now c.in_ok-last.last.now c.in_ok-first.context.now c.in_ok-last.template.now two c.in_ok-first.ensures.first
    (rw two at c.in_ok-last.ensures.last) first last

pub returns-else-eq : goal.returns-else-eq
returns-else-eq c = λ context template is.
    let two : length c.args.members.now.entries ≡ 2 = omega (arith, c.len.ensures.len, c.if-len-ne2.false) in
    let keys = are_keys c.args.members.now.entries c.in_ok-first.first.now c.in_ok-last.last.now c.in_ok-first.context.now c.in_ok-last.template.now context template c.in_ok-first.ensures.first
    (rw two at c.in_ok-last.ensures.last) is in
    elim c.else-eq.branch [
      | else-eq-via-then-eq+else-eq-2 w ↦
          let other : bytes_eq (string_bytes c.in_ok-last.last.now) (codes "template") ≡ false =
          subst (λ (t : List ℕ). bytes_eq t (codes "template") ≡ false) w.as_str-then-eq.ensures.value (sym w.eq-then-eq.ensures ∙ w.if-eq-2.false) in
          let same : bytes_eq (string_bytes c.in_ok-last.last.now) (codes "template") ≡ true = (bytes_eq-Decides (string_bytes c.in_ok-last.last.now) (codes "template")).1 keys.1 in
          cc
      | else-eq-via-else-eq w ↦
          let other : bytes_eq (string_bytes c.in_ok-first.first.now) (codes "context") ≡ false =
          subst (λ (t : List ℕ). bytes_eq t (codes "context") ≡ false) c.as_str.ensures.value (sym c.eq.ensures ∙ w.if-eq.false) in
          let same : bytes_eq (string_bytes c.in_ok-first.first.now) (codes "context") ≡ true = (bytes_eq-Decides (string_bytes c.in_ok-first.first.now) (codes "context")).1 keys.0 in
          cc
    ]
