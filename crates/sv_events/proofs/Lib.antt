pub mod CounterName
