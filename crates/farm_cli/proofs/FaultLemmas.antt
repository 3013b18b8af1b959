-- Which connections are counted, and of which doors.
use Rattle.std.proofs.Common.{◌≡◌, ℕ, ◌+◌, ◌-◌, ◌^◌, ◌<◌, ◌≤◌, ◌⊎◌, List, [], ◌∷◌, length, map, Option, Some, None, refl, sym, ◌∙◌, ap, subst, inl, inr, ⊎_elim, arith}
use Rattle.std.specs.Prelude.{IfSome}
use Rattle.std.specs.List.{All, sum_by}
use Rattle.std.proofs.lemmas.Bool.{cases_lt}
use Rattle.std.proofs.lemmas.List.Elements.{All-nil, All-cons, All-head, All-tail}
use Rattle.std.proofs.lemmas.List.Sums.{sum_by-cons}
use Rattle.causes.specs.Causes.{Rose}
use Rattle.http_wire.specs.Calls.{LinkState}
use Rattle.http_wire.specs.declared.message.Message.{Message}
use Rattle.farm_server.specs.Served.{messages_of, Spoke, EndsAs, IsCaused}
use Rattle.farm_server.specs.declared.served.Served.{Served}
use Rattle.farm_server.specs.declared.served.Served.TheVariants as served
use Rattle.farm_server.specs.declared.served.TheConstants.{REQUESTS}
use Rattle.farm_serving.specs.Connections.{Connection, Company, outside, InTurn, Part, HasCounted, Worked}
use Rattle.farm_serving.specs.Numbers.{by_read, by_write, by_wire, by_memory}
use Rattle.farm_serving.specs.Tally.{of_all, IsTally}
use Rattle.farm_serving.specs.declared.ended.Ended.{Ended}
use Rattle.console_commands.specs.declared.status.Status.{Status}
use Rattle.console_commands.specs.declared.status.Status.TheVariants.{Done, Usage, FarmFile, Input, Opening, Disk, Door, Read, Write, NoMemory, Wire, Damaged}
use Rattle.farm_cli.specs.Ends.{HasOne, HasConnection, HasRisen, WentWell}
use Rattle.console_commands.specs.Inputs.{Tells}
use Rattle.farm_crews.specs.Serves.{CallsFor, IsFirstOf, IsStatusOf}
use Rattle.farm_cli.specs.Ends.{EndsWith, status_of}

-- the list of the messages ends so, where the bytes are known
pub ends_with : (left : Option (List ℕ)) (messages : List Message) (end : Served) → IfSome left (λ bytes. EndsAs REQUESTS bytes messages end)
    → IfSome left (λ bytes. EndsWith bytes (status_of end))
ends_with None messages end ends = tt
ends_with (Some bytes) messages end ends = record { messages = messages; served = end; calls_for = refl; ends = ends }

-- ---- where a number is not 0, one is counted

-- what is known of a connection of a worker
abbrev IsSpoken : Connection → Type 0
IsSpoken c = (before : Company) × (after : Company) × Spoke (outside c.given before) (outside c.back after) c.asks c.replies c.served

turns_one : (f : Connection → ℕ) (IsSo : Connection → Type 0) → ((c : Connection) → IsSpoken c → 0 < f c → IsSo c)
    → (before after : Company) (cs : List Connection) → InTurn before after cs → 0 < sum_by f cs → HasOne IsSo cs
turns_one f IsSo so before after [] turns some = absurd (omega (arith, some))
turns_one f IsSo so before after (c ∷ cs) turns some =
    let split = sum_by-cons f c cs in
    ⊎_elim (λ (here : 0 < f c). inl (so c (before, turns.0, turns.1) here)) (λ (none : f c ≤ 0). inr (turns_one f IsSo so turns.0 after cs turns.2 (omega (arith, some, split, none)))) (cases_lt 0 (f c))

parts_one : (accepts : ℕ) (f : Connection → ℕ) (IsSo : Connection → Type 0) → ((c : Connection) → IsSpoken c → 0 < f c → IsSo c)
    → (parts : List Part) → All (Worked accepts) parts → 0 < of_all f parts → HasConnection IsSo parts
parts_one accepts f IsSo so [] worked some = absurd (omega (arith, some))
parts_one accepts f IsSo so (part ∷ parts) worked some =
    let split = sum_by-cons (λ (p : Part). sum_by f p.connections) part parts in
    let here : Worked accepts part = All-head (Worked accepts) part parts worked in
    ⊎_elim (λ (more : 0 < sum_by f part.connections). inl (turns_one f IsSo so part.before.company part.after.company part.connections here.turns more))
    (λ (none : sum_by f part.connections ≤ 0). inr (parts_one accepts f IsSo so parts (All-tail (Worked accepts) part parts worked) (omega (arith, some, split, none)))) (cases_lt 0 (sum_by f part.connections))

risen : (failed before after : ℕ) → 0 < failed → HasCounted failed before after → HasRisen before after
risen failed before after some (counted, inl more) = inl (omega (arith, some, more))
risen failed before after some (counted, inr last) = inr last

pub accepts_one : (accepts : ℕ) (parts : List Part) → All (Worked accepts) parts → 0 < sum_by (λ part. part.failed) parts → HasOne (λ part. HasRisen part.before.faults part.after.faults) parts
accepts_one accepts [] worked some = absurd (omega (arith, some))
accepts_one accepts (part ∷ parts) worked some =
    let split = sum_by-cons (λ (p : Part). p.failed) part parts in
    let here : Worked accepts part = All-head (Worked accepts) part parts worked in
    ⊎_elim (λ (more : 0 < part.failed). inl (risen part.failed part.before.faults part.after.faults more here.faults))
    (λ (none : part.failed ≤ 0). inr (accepts_one accepts parts (All-tail (Worked accepts) part parts worked) (omega (arith, some, split, none)))) (cases_lt 0 part.failed)

read_rose : (given back : LinkState) (before after : Company) (end : Served) → IsCaused (outside given before) (outside back after) end → 0 < by_read end → Rose given.read_faults back.read_faults
read_rose given back before after served.ReadFault cause some = cause.0
read_rose given back before after served.WriteFault cause some = absurd (omega (arith, some))
read_rose given back before after served.Closed cause some = absurd (omega (arith, some))
read_rose given back before after served.Full cause some = absurd (omega (arith, some))
read_rose given back before after served.EndedInside cause some = absurd (omega (arith, some))
read_rose given back before after (served.WireFault reason) cause some = absurd (omega (arith, some))
read_rose given back before after served.NoMemory cause some = absurd (omega (arith, some))

write_rose : (given back : LinkState) (before after : Company) (end : Served) → IsCaused (outside given before) (outside back after) end → 0 < by_write end → Rose given.write_faults back.write_faults
write_rose given back before after served.WriteFault cause some = cause.0
write_rose given back before after served.ReadFault cause some = absurd (omega (arith, some))
write_rose given back before after served.Closed cause some = absurd (omega (arith, some))
write_rose given back before after served.Full cause some = absurd (omega (arith, some))
write_rose given back before after served.EndedInside cause some = absurd (omega (arith, some))
write_rose given back before after (served.WireFault reason) cause some = absurd (omega (arith, some))
write_rose given back before after served.NoMemory cause some = absurd (omega (arith, some))

wire_cut : (left : Option (List ℕ)) (messages : List Message) (end : Served) → IfSome left (λ bytes. EndsAs REQUESTS bytes messages end) → 0 < by_wire end → IfSome left (λ bytes. EndsWith bytes Wire)
wire_cut left messages (served.WireFault reason) ends some = ends_with left messages (served.WireFault reason) ends
wire_cut left messages served.EndedInside ends some = ends_with left messages served.EndedInside ends
wire_cut left messages served.ReadFault ends some = absurd (omega (arith, some))
wire_cut left messages served.WriteFault ends some = absurd (omega (arith, some))
wire_cut left messages served.Closed ends some = absurd (omega (arith, some))
wire_cut left messages served.Full ends some = absurd (omega (arith, some))
wire_cut left messages served.NoMemory ends some = absurd (omega (arith, some))

pub link_unread : (accepts : ℕ) (parts : List Part) → All (Worked accepts) parts → 0 < of_all (λ c. by_read c.served) parts → HasConnection (λ c. Rose c.given.read_faults c.back.read_faults) parts
link_unread accepts parts worked some =
    parts_one accepts (λ c. by_read c.served) (λ c. Rose c.given.read_faults c.back.read_faults) (λ c spoken more. read_rose c.given c.back spoken.0 spoken.1 c.served spoken.2.cause more) parts worked some

pub link_unwritten : (accepts : ℕ) (parts : List Part) → All (Worked accepts) parts → 0 < of_all (λ c. by_write c.served) parts → HasConnection (λ c. Rose c.given.write_faults c.back.write_faults) parts
link_unwritten accepts parts worked some =
    parts_one accepts (λ c. by_write c.served) (λ c. Rose c.given.write_faults c.back.write_faults) (λ c spoken more. write_rose c.given c.back spoken.0 spoken.1 c.served spoken.2.cause more) parts worked some

pub link_cut : (accepts : ℕ) (parts : List Part) → All (Worked accepts) parts → 0 < of_all (λ c. by_wire c.served) parts → HasConnection (λ c. IfSome c.given.left (λ bytes. EndsWith bytes Wire)) parts
link_cut accepts parts worked some =
    parts_one accepts (λ c. by_wire c.served) (λ c. IfSome c.given.left (λ bytes. EndsWith bytes Wire)) (λ c spoken more. wire_cut c.given.left (messages_of c.asks) c.served spoken.2.taken more) parts worked some

-- ---- where every number is 0, all went well

ended_well : (end : Served) → by_read end ≡ 0 → by_write end ≡ 0 → by_wire end ≡ 0 → by_memory end ≡ 0 → status_of end ≡ Done
ended_well served.Closed read write wire memory = refl
ended_well served.Full read write wire memory = refl
ended_well served.ReadFault read write wire memory = absurd (omega (arith, read))
ended_well served.WriteFault read write wire memory = absurd (omega (arith, write))
ended_well (served.WireFault reason) read write wire memory = absurd (omega (arith, wire))
ended_well served.EndedInside read write wire memory = absurd (omega (arith, wire))
ended_well served.NoMemory read write wire memory = absurd (omega (arith, memory))

connections_well : (cs : List Connection) → sum_by (λ (c : Connection). by_read c.served) cs ≡ 0 → sum_by (λ (c : Connection). by_write c.served) cs ≡ 0
    → sum_by (λ (c : Connection). by_wire c.served) cs ≡ 0 → sum_by (λ (c : Connection). by_memory c.served) cs ≡ 0 → All (λ c. status_of c.served ≡ Done) cs
connections_well [] read write wire memory = All-nil (λ c. status_of c.served ≡ Done)
connections_well (c ∷ cs) read write wire memory =
    let reads = sum_by-cons (λ (d : Connection). by_read d.served) c cs in
    let writes = sum_by-cons (λ (d : Connection). by_write d.served) c cs in
    let wires = sum_by-cons (λ (d : Connection). by_wire d.served) c cs in
    let memories = sum_by-cons (λ (d : Connection). by_memory d.served) c cs in
    All-cons (λ d. status_of d.served ≡ Done) c cs (ended_well c.served (omega (arith, read, reads)) (omega (arith, write, writes)) (omega (arith, wire, wires)) (omega (arith, memory, memories)))
    (connections_well cs (omega (arith, read, reads)) (omega (arith, write, writes)) (omega (arith, wire, wires)) (omega (arith, memory, memories)))

pub went_well : (parts : List Part) → sum_by (λ (part : Part). part.failed) parts ≡ 0 → of_all (λ c. by_read c.served) parts ≡ 0 → of_all (λ c. by_write c.served) parts ≡ 0
    → of_all (λ c. by_wire c.served) parts ≡ 0 → of_all (λ c. by_memory c.served) parts ≡ 0 → All WentWell parts
went_well [] accepts read write wire memory = All-nil WentWell
went_well (part ∷ parts) accepts read write wire memory =
    let fails = sum_by-cons (λ (p : Part). p.failed) part parts in
    let reads = sum_by-cons (λ (p : Part). sum_by (λ (c : Connection). by_read c.served) p.connections) part parts in
    let writes = sum_by-cons (λ (p : Part). sum_by (λ (c : Connection). by_write c.served) p.connections) part parts in
    let wires = sum_by-cons (λ (p : Part). sum_by (λ (c : Connection). by_wire c.served) p.connections) part parts in
    let memories = sum_by-cons (λ (p : Part). sum_by (λ (c : Connection). by_memory c.served) p.connections) part parts in
    All-cons WentWell part parts
    (record {
      accepts = omega (arith, accepts, fails);
      connections = connections_well part.connections (omega (arith, read, reads)) (omega (arith, write, writes)) (omega (arith, wire, wires)) (omega (arith, memory, memories));
    })
    (went_well parts (omega (arith, accepts, fails)) (omega (arith, read, reads)) (omega (arith, write, writes)) (omega (arith, wire, wires)) (omega (arith, memory, memories)))

-- ---- the status that serving calls for

first_called : (statuses : List Status) (Calls : Status → Type 0) (status : Status) → IsFirstOf statuses Calls status → Calls status
first_called [] Calls status first = absurd first
first_called (one ∷ others) Calls status (inl here) = subst Calls (sym here.1) here.0
first_called (one ∷ others) Calls status (inr there) = first_called others Calls status there.1

pub called : (ended : Ended) (last status : Status) → IsStatusOf ended last status → CallsFor ended last status
called ended last status first = first_called (Door ∷ Read ∷ Write ∷ NoMemory ∷ Wire ∷ Done ∷ []) (CallsFor ended last) status first

-- nothing else is called for
pub record IsQuiet (ended : Ended) (last : Status) : Type 0 where
  pub accepts : ended.accept_faults ≡ 0
  pub reads : ended.read_faults ≡ 0
  pub writes : ended.write_faults ≡ 0
  pub told : ¬ (last ≡ Write)
  pub memory : ended.no_memory ≡ 0
  pub kept : ¬ (last ≡ NoMemory)
  pub wires : ended.wire_faults ≡ 0

none_below : (n : ℕ) → ¬ (0 < n) → n ≡ 0
none_below n none = ⊎_elim (λ (some : 0 < n). absurd (none some)) (λ (zero : n ≤ 0). omega (arith, zero)) (cases_lt 0 n)

pub quiet : (ended : Ended) (last : Status) → IsStatusOf ended last Done → IsQuiet ended last
quiet ended last (inl door) = let no_ : Done ≡ Door = door.1 in cc
quiet ended last (inr (no_door, inl read)) = let no_ : Done ≡ Read = read.1 in cc
quiet ended last (inr (no_door, inr (no_read, inl write))) = let no_ : Done ≡ Write = write.1 in cc
quiet ended last (inr (no_door, inr (no_read, inr (no_write, inl memory)))) = let no_ : Done ≡ NoMemory = memory.1 in cc
quiet ended last (inr (no_door, inr (no_read, inr (no_write, inr (no_memory, inl wire))))) = let no_ : Done ≡ Wire = wire.1 in cc
quiet ended last (inr (no_door, inr (no_read, inr (no_write, inr (no_memory, inr (no_wire, rest)))))) = record {
  accepts = none_below ended.accept_faults no_door;
  reads = none_below ended.read_faults no_read;
  writes = none_below ended.write_faults (λ some. no_write (inl some));
  told = λ is. no_write (inr is);
  memory = none_below ended.no_memory (λ some. no_memory (inl some));
  kept = λ is. no_memory (inr is);
  wires = none_below ended.wire_faults no_wire;
}

-- the last line was written
pub told_whole : (text : List ℕ) (before after : LinkState) (last : Status) → Tells text before after last → ¬ (last ≡ Write) → ¬ (last ≡ NoMemory) → Tells text before after Done
told_whole text before after Done told no_write no_memory = told
told_whole text before after Write told no_write no_memory = absurd (no_write refl)
told_whole text before after NoMemory told no_write no_memory = absurd (no_memory refl)
told_whole text before after Usage told no_write no_memory = absurd told.1
told_whole text before after FarmFile told no_write no_memory = absurd told.1
told_whole text before after Input told no_write no_memory = absurd told.1
told_whole text before after Opening told no_write no_memory = absurd told.1
told_whole text before after Disk told no_write no_memory = absurd told.1
told_whole text before after Door told no_write no_memory = absurd told.1
told_whole text before after Read told no_write no_memory = absurd told.1
told_whole text before after Wire told no_write no_memory = absurd told.1
told_whole text before after Damaged told no_write no_memory = absurd told.1
