use Rattle.web.proofs.Answering.{answered_by}
use Rattle.web.proofs.connections.BookAnswererAnswererBook.answer.Goals as goal

pub returns : goal.returns
returns g c =
    answered_by g.S.Store c.args.book.now c.exchange.new.book c.args.request.now c.args.response.now.items c.exchange.new.writer.items _ c.exchange.result c.requires
    (record {
      once = c.exchange.ensures.once;
      shut = λ failed. (c.exchange.ensures.shut failed).0;
      disk = c.exchange.ensures.disk;
      honest = c.exchange.ensures.honest;
      others_left = c.exchange.ensures.others_left;
      calls = c.exchange.ensures.calls;
    }) c.exchange.ensures.served c.exchange.ensures.broken_off
