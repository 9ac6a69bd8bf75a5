-- With whole replicas, of sixteen registers each, the player prints the same. Assumes nothing.
use Rattle.std.proofs.Common.{Option, Some, None}
use mathlib.Core.Path.{◌≡◌, refl, sym, ap, ap₂, ◌∙◌}
use mathlib.Core.List.{List, [], ◌∷◌, ◌++◌}
use Prim.Native.Nat.{ℕ, zero, suc, ◌+◌}
use lib.ListN.{length, get_or, take, set, length-replicate}
use Rattle.base.specs.Counting.{replica}
use Rattle.base.specs.Outcome.{Outcome}
use Rattle.base.specs.Party.{register_place}
use Rattle.base.specs.declared.client_set.ClientSet.{ClientSet}
use Rattle.base.specs.declared.party.RegisterId.{RegisterId}
use Rattle.base.specs.declared.party.ReplicaId.{ReplicaId}
use Rattle.base.proofs.Registers.{place_below}
use Rattle.wire.specs.Decode.{register_in}
use Rattle.wire.specs.declared.message.Party.TheVariants.{Replica as AtReplica}
use Rattle.text.specs.Line.{lines}
use Rattle.protocol.specs.Events.{as_client_answer}
use Rattle.protocol.specs.Bank.{bank_part, fresh_bank, no_bank, place_in, bank_call}
use Rattle.protocol.specs.RegisterReplica.{fresh_register, fresh_register_replica, no_register_replica, register_call}
use Rattle.protocol.specs.declared.client.Client.{Client}
use Rattle.protocol.specs.declared.replica.Bank.{Bank}
use Rattle.protocol.specs.declared.replica.Register.{Register}
use Rattle.protocol.specs.declared.replica.RegisterReplica.{RegisterReplica}
use Rattle.protocol.proofs.BankFacts.{fresh_part, f_kept, id_kept, withdrawn_kept, length_kept, register_stepped, answer_stepped, output_stepped}
use Rattle.play.specs.Calls.{the_register, verdicts, sent_before, free, message_at, replica_does}
use Rattle.play.specs.ForRegister.{fresh_banks, no_replicas, BanksTurn, bank_does, banks_do, printed_lines_by_banks, printed_by_banks, PrintedAlike}
use Rattle.play.specs.Grammar.{command}
use Rattle.play.specs.Output.{header, line}
use Rattle.play.specs.Player.{Turn, said_of, logged_by, client_turn, replica_turn, addressee, does, turn}
use Rattle.play.specs.Session.{printed_lines, printed}
use Rattle.play.specs.Worlds.{fresh_world, seat}
use Rattle.play.specs.declared.log.Log.{Log}
use Rattle.play.specs.declared.output.Said.{Said}
use Rattle.play.specs.declared.turn.Addressee.{Addressee}
use Rattle.play.specs.declared.turn.Addressee.TheVariants.{Client as ToTheClient, Replica as ToTheReplica}
use Rattle.play.specs.declared.world.World.{World}
use Rattle.play.proofs.ForRegister.{KnownTo, addressee_known, message_register, Holds, request_left, does_holds, fresh_holds}

-- ---- One bank

-- The bank has this part at the register's place.
record HasPart (bank : Bank) (part : RegisterReplica) : Type 0 where
  part_is : bank_part (register_place the_register) bank ≡ part
  sixteen : length bank.registers ≡ 16

fresh_has : (f i : ℕ) (key : List ℕ) → HasPart (fresh_bank f (replica i) key) (fresh_register_replica f (replica i))
fresh_has f i key = record { part_is = fresh_part f (replica i) key (register_place the_register) (place_below the_register); sixteen = length-replicate 16 fresh_register }

same_part : (a b : RegisterReplica) → a.f ≡ b.f → a.id ≡ b.id → a.register ≡ b.register → a.withdrawn ≡ b.withdrawn → a ≡ b
same_part a b f id register withdrawn =
    ap₂ (λ (n : ℕ) (i : ReplicaId). record { f = n; id = i; register = a.register; withdrawn = a.withdrawn }) f id
    ∙ ap₂ (λ (held : Register) (set : ClientSet). record { f = b.f; id = b.id; register = held; withdrawn = set }) register withdrawn

-- A message for the register is to the bank what it is to the part.
module _ (bank : Bank) (part : RegisterReplica) (has : HasPart bank part) (bytes verdicts old : List ℕ) (is : register_in bytes ≡ the_register) where
  placed : bank_part (place_in bytes) bank ≡ part
  placed = ap (λ (x : RegisterId). bank_part (register_place x) bank) is ∙ has.part_is

  answer_alike : (bank_call bank bytes verdicts old).answer ≡ (register_call part bytes verdicts old).answer
  answer_alike = answer_stepped bank bytes verdicts old ∙ ap (λ (r : RegisterReplica). (register_call r bytes verdicts old).answer) placed

  output_alike : (bank_call bank bytes verdicts old).output ≡ (register_call part bytes verdicts old).output
  output_alike = output_stepped bank bytes verdicts old ∙ ap (λ (r : RegisterReplica). (register_call r bytes verdicts old).output) placed

  part_left : (register_call part bytes verdicts old).replica.f ≡ part.f → (register_call part bytes verdicts old).replica.id ≡ part.id
      → (register_call part bytes verdicts old).replica.withdrawn ≡ part.withdrawn
      → HasPart (bank_call bank bytes verdicts old).bank (register_call part bytes verdicts old).replica
  part_left same_f same_id same_withdrawn =
      let left = (bank_call bank bytes verdicts old).bank in
      let own = has.part_is in
      record {
        part_is =
            same_part (bank_part (register_place the_register) left) (register_call part bytes verdicts old).replica
            (f_kept bank bytes verdicts old ∙ ap (λ (r : RegisterReplica). r.f) own ∙ sym same_f)
            (id_kept bank bytes verdicts old ∙ ap (λ (r : RegisterReplica). r.id) own ∙ sym same_id)
            (ap (λ (x : RegisterId). (bank_part (register_place x) left).register) (sym is) ∙ register_stepped bank bytes verdicts old has.sixteen
            ∙ ap (λ (r : RegisterReplica). (register_call r bytes verdicts old).replica.register) placed)
            (withdrawn_kept bank bytes verdicts old ∙ ap (λ (r : RegisterReplica). r.withdrawn) own ∙ sym same_withdrawn);
        sixteen = length_kept bank bytes verdicts old ∙ has.sixteen;
      }

-- ---- The four

data Parts : List Bank → List RegisterReplica → Type 0 where
  none : Parts [] []
  more : {bank : Bank} {part : RegisterReplica} {banks : List Bank} {parts : List RegisterReplica} → HasPart bank part → Parts banks parts → Parts (bank ∷ banks) (part ∷ parts)

part_of : {banks : List Bank} {parts : List RegisterReplica} → Parts banks parts → (i : ℕ) → HasPart (get_or banks i no_bank) (get_or parts i no_register_replica)
part_of none i = fresh_has 0 0 _
part_of (more has rest) zero = has
part_of (more has rest) (suc i) = part_of rest i

with_part : {banks : List Bank} {parts : List RegisterReplica} {bank : Bank} {part : RegisterReplica} → Parts banks parts → (i : ℕ) → HasPart bank part
    → Parts (set banks i bank) (set parts i part)
with_part none i has = none
with_part (more old rest) zero has = more has rest
with_part (more old rest) (suc i) has = more old (with_part rest i has)

-- ---- One line

-- The world with other replicas.
abbrev beside : List RegisterReplica → World → World
beside replicas world = record { replicas = replicas; clients = world.clients; log = world.log }

record Alike (banks : BanksTurn) (t : Turn) : Type 0 where
  said_alike : banks.turn.said ≡ t.said
  card_alike : banks.turn.card ≡ t.card
  store_alike : banks.turn.store ≡ t.store
  clients_alike : banks.turn.world.clients ≡ t.world.clients
  log_alike : banks.turn.world.log ≡ t.world.log
  parts : Parts banks.banks t.world.replicas

module _ {world : World} {store : List ℕ} (holds : Holds world store) {banks : List Bank} (parts : Parts banks world.replicas) (others : List RegisterReplica) (text : List ℕ) where
  line_alike : (party : Option Addressee) → KnownTo world.log.count party → Alike (banks_do banks (beside others world) store text party) (does world store text party)
  unfolding banks_do does client_turn replica_turn bank_does replica_does
  line_alike (Some (ToTheClient id call)) known = record { said_alike = refl; card_alike = refl; store_alike = refl; clients_alike = refl; log_alike = refl; parts = parts }
  line_alike (Some (ToTheReplica id m)) known =
      let at = seat id.0 in
      let bytes = message_at world.log store m in
      let marks = verdicts AtReplica bytes in
      let old = free world.log store in
      let bank = get_or banks at no_bank in
      let part = get_or world.replicas at no_register_replica in
      let has = part_of parts at in
      let is = message_register holds.logs m known in
      let answer = answer_alike bank part has bytes marks old is in
      let left = request_left holds id m known in
      record {
        said_alike = ap (λ (a : Outcome ℕ). said_of world.log.count (as_client_answer a)) answer;
        card_alike = refl;
        store_alike = ap (λ (out : List ℕ). sent_before world.log store ++ out) (output_alike bank part has bytes marks old is);
        clients_alike = refl;
        log_alike = ap (λ (a : Outcome ℕ). logged_by (as_client_answer a) world.log) answer;
        parts = with_part parts at (part_left bank part has bytes marks old is left.same_f left.same_id left.same_withdrawn);
      }
  line_alike None known = record { said_alike = refl; card_alike = refl; store_alike = refl; clients_alike = refl; log_alike = refl; parts = parts }

-- ---- A session

lines_alike : (texts : List (List ℕ)) (number : ℕ) {world : World} {store : List ℕ} → Holds world store → {banks : List Bank} → Parts banks world.replicas → (others : List RegisterReplica)
    → printed_lines_by_banks banks (beside others world) store number texts ≡ printed_lines world store number texts
unfolding printed_lines_by_banks printed_lines turn
lines_alike [] number holds parts others = refl
lines_alike (text ∷ texts) number {world} {store} holds {banks} parts others =
    let party = addressee world.log.count (command text) in
    let known = addressee_known world.log.count (command text) in
    let b : BanksTurn = banks_do banks (beside others world) store text party in
    let t : Turn = does world store text party in
    let alike = line_alike holds parts others text party known in
    let next : b.turn.world ≡ beside b.turn.world.replicas t.world =
    ap₂ (λ (clients : List Client) (log : Log). record { replicas = b.turn.world.replicas; clients = clients; log = log }) alike.clients_alike alike.log_alike in
    ap₂ (λ (first rest : List ℕ). first ++ rest)
    (ap₂ (λ (what : Outcome Said) (card : List ℕ). line number what card) alike.said_alike alike.card_alike)
    (ap₂ (λ (w : World) (s : List ℕ). printed_lines_by_banks b.banks w s (number + 1) texts) next alike.store_alike
    ∙ lines_alike texts (number + 1) (does_holds holds text party known) alike.parts b.turn.world.replicas)

fresh_parts : Parts fresh_banks fresh_world.replicas
unfolding fresh_banks fresh_world
fresh_parts = more (fresh_has 1 1 _) (more (fresh_has 1 2 _) (more (fresh_has 1 3 _) (more (fresh_has 1 4 _) none)))

pub printed_alike : PrintedAlike
unfolding printed_by_banks printed no_replicas
printed_alike script = ap (λ (rest : List ℕ). header ++ rest) (lines_alike (take 100 (lines script)) 1 fresh_holds fresh_parts [])
