-- The theorem on chains is one of every packet.
use Rattle.packet.proofs.Chains.{walk_is_chain}
use Rattle.packet.proofs.container.find_container.Goals as goal

pub returns-in_err-packet-clause-chain : goal.returns-in_err-packet-clause-chain
returns-in_err-packet-clause-chain c = walk_is_chain

pub returns-in_err-check_first_octets-clause-chain : goal.returns-in_err-check_first_octets-clause-chain
returns-in_err-check_first_octets-clause-chain c = walk_is_chain

pub returns-in_err-walk-clause-chain : goal.returns-in_err-walk-clause-chain
returns-in_err-walk-clause-chain c = walk_is_chain

pub returns-clause-chain : goal.returns-clause-chain
returns-clause-chain c = walk_is_chain
