use Rattle.chain_control.proofs.Answering.{fresh_tracks, fresh_keeps}
use Rattle.chain_control.proofs.chains.ChainsControl.begin.Goals as goal

pub returns : goal.returns
returns g c =
    record {
      stands = record {
        obeys = tt;
        tracks = fresh_tracks c.args.store c.new-table.result c.new-table.ensures c.requires.loaded;
        keeps = fresh_keeps c.args.store c.new-table.result c.new-table.ensures c.requires.loaded g.row.KEEP;
      };
    }
